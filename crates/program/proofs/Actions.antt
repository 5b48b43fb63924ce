-- The actions of a well-formed program's graph: each is the one at its kind and entry, that entry exists, and it is well sorted.
use Rattle.std.specs.Prelude.{Ok}
use mathlib.Core.Path.{◌≡◌, refl, ap}
use mathlib.Core.Bool.{Bool, true}
use mathlib.Core.List.{List, [], ◌∷◌, ◌++◌}
use Prim.Native.Nat.{ℕ, ◌+◌, ◌<◌}
use lib.Dec.{T}
use lib.ListN.{get_or}
use Rattle.signs.specs.Lists.{all_of}
use Rattle.program.specs.File.{sizes, entry_count, entry}
use Rattle.program.specs.Graph.{perform, leave, Edge, Around, within, past, edge, guards, guard_action, selected, part, graph, edges, edge_count, action_kind, action_entry}
use Rattle.program.specs.Questions.{validity}
use Rattle.program.specs.Parts.Preceding.{plain}
use Rattle.program.specs.Parts.Sorted.{boolean_named, boolean_points, action_named, action_points, action_table, guard_test, action_of}
use Rattle.program.specs.Syntax.{Boolean, Command, guarded}
use Rattle.program.specs.Tree.{boolean_at}
use Rattle.program.specs.declared.Construction.{Construction}
use Rattle.program.specs.declared.Construction.TheVariants.{Nondeterministic, Deterministic}
use Rattle.program.specs.declared.Table.TheVariants.{Boolean as Booleans}
use Rattle.program.proofs.Expressions.{BooleanSorted, boolean_sorted}
use Rattle.program.proofs.Lists.{Each, none, more, each_append, each_at}
use Rattle.program.proofs.Made.{AtEntry, Made, make_skip, make_assign, make_store, make_sequence, make_conditional, make_iteration, make_guarded, make_choice, make_jump}
use Rattle.program.proofs.Sorting.{made_at, made_entry, made_guarded, made_named, made_points, done_named, script_made}
use Rattle.program.proofs.Tests.{both, passed}
use Rattle.program.proofs.Trees.{boolean_entry_lem}

-- what holds of the action of an edge: it is, without its earlier guards, the one of its kind and entry
pub record Faithful (s : List ℕ) (e : Edge) : Type 0 where
  pub same : plain e.action ≡ action_of (entry s) (action_kind e.action) (action_entry e.action)
  pub named : T (action_named (sizes s) e.action)
  pub points : T (action_points e.action)
  pub exists : action_entry e.action < entry_count s (action_table (action_kind e.action))

-- guards that are well sorted, as a condition and one by one
selected_named : (ns : List ℕ) (earlier : List Boolean) (b : Boolean) → Each (BooleanSorted ns) earlier → boolean_named ns b ≡ true → boolean_named ns (selected earlier b) ≡ true
unfolding selected boolean_named
selected_named ns [] b h t = t
selected_named ns (g ∷ earlier) b (more x h) t = both x.named (selected_named ns earlier b h t)

all_point : (ns : List ℕ) (earlier : List Boolean) → Each (BooleanSorted ns) earlier → all_of boolean_points earlier ≡ true
unfolding all_of
all_point ns [] h = refl
all_point ns (g ∷ earlier) (more x h) = both x.points (all_point ns earlier h)

module _ (s : List ℕ) (fit : validity s ≡ Ok tt) where
  -- of a command, a guard and an exit
  performed : {a b n : ℕ} {c : Command} {g : Bool} → Made s g n c → Faithful s (edge a (perform c) b)
  unfolding action_kind action_entry action_table action_of action_named action_points plain
  performed m =
      record {
        same = rw (made_entry m) (ap perform (made_at m).tree);
        named = passed (made_named s fit m);
        points = passed (made_points s fit m);
        exists = rw (made_entry m) (made_at m).exists;
      }

  -- the guards of a command
  guards_sorted : {g : Bool} {n : ℕ} {c : Command} → Made s g n c → Each (BooleanSorted (sizes s)) (guards c)
  unfolding guards
  guards_sorted (make_skip e) = none
  guards_sorted (make_assign e x v) = none
  guards_sorted (make_store e x i v) = none
  guards_sorted (make_sequence e l m c d) = none
  guards_sorted (make_conditional e l c) = none
  guards_sorted (make_iteration e l c) = none
  guards_sorted (make_guarded e h l c) = more (boolean_sorted s fit _ h) none
  guards_sorted (make_choice e l m c d) = each_append (guards_sorted c) (guards_sorted d)
  guards_sorted (make_jump e) = none

  tested : (κ : Construction) {a b k : ℕ} {c : Command} (earlier : List Boolean) (n : ℕ) → Each (BooleanSorted (sizes s)) earlier → n < entry_count s Booleans → AtEntry s k (guarded k (boolean_at (entry s) n) c)
      → Faithful s (edge a (guard_action κ earlier k (boolean_at (entry s) n)) b)
  unfolding guard_action action_kind action_entry action_table action_of action_named action_points plain guard_test
  tested Nondeterministic earlier n sorted h at =
      record {
        same = rw (boolean_entry_lem (entry s) n);
        named = passed (boolean_sorted s fit n h).named;
        points = passed (boolean_sorted s fit n h).points;
        exists = rw (boolean_entry_lem (entry s) n) h;
      }
  tested Deterministic earlier n sorted h at =
      record {
        same = ap guard_test at.tree;
        named = passed (selected_named (sizes s) earlier _ sorted (boolean_sorted s fit n h).named);
        points = passed (both (all_point (sizes s) earlier sorted) (boolean_sorted s fit n h).points);
        exists = at.exists;
      }

  left : {a b n : ℕ} {c : Command} → Made s true n c → Faithful s (edge a (leave c) b)
  unfolding action_kind action_entry action_table action_of action_named action_points plain
  left m =
      record {
        same = rw (made_entry m) (ap leave (made_at m).tree);
        named = passed (done_named (sizes s) _ (made_named s fit m));
        points = passed (both (made_guarded m) (made_points s fit m));
        exists = rw (made_entry m) (made_at m).exists;
      }

  part_faithful : {g : Bool} {k : ℕ} {c : Command} → Made s g k c → (κ : Construction) (o : Around) → Each (BooleanSorted (sizes s)) o.earlier → (a b n : ℕ) → Each (Faithful s) (part κ o c a b n).edges
  unfolding part
  part_faithful (make_skip e) κ o h a b n = more (performed (make_skip e)) none
  part_faithful (make_assign e x v) κ o h a b n = more (performed (make_assign e x v)) none
  part_faithful (make_store e x i v) κ o h a b n = more (performed (make_store e x i v)) none
  part_faithful (make_sequence e l m c d) κ o h a b n = each_append (part_faithful c κ o h a n (n + 1)) (part_faithful d κ o h n b _)
  part_faithful (make_conditional e l c) κ o h a b n = part_faithful c κ (past o []) none a b n
  part_faithful (make_iteration e l c) κ o h a b n = each_append (part_faithful c κ (within a b) none a a n) (more (left c) none)
  part_faithful (make_guarded e t l c) κ o h a b n = more (tested κ o.earlier _ h t e) (part_faithful c κ o h n b (n + 1))
  part_faithful (make_choice e l m c d) κ o h a b n =
      each_append (part_faithful c κ o h a b n) (part_faithful d κ (past o (o.earlier ++ guards _)) (each_append h (guards_sorted c)) a b _)
  part_faithful (make_jump e) κ o h a b n = more (performed (make_jump e)) none

  -- of all edges, and at an index
  pub edges_faithful : (κ : Construction) → Each (Faithful s) (edges κ s)
  unfolding edges graph
  edges_faithful κ = part_faithful (script_made s fit) κ (within 0 1) none 0 1 2

  pub edge_faithful : (κ : Construction) (k : ℕ) (d : Edge) → k < edge_count κ s → Faithful s (get_or (edges κ s) k d)
  unfolding edge_count
  edge_faithful κ k d h = each_at k d (edges_faithful κ) h
