-- The code and the graph of a well-formed file are its prepared program.
use Rattle.std.specs.Prelude.{Ok, Err}
use mathlib.Core.Path.{◌≡◌, refl, sym, ◌∙◌, ap}
use mathlib.Core.Bool.{Bool, true, false}
use mathlib.Core.List.{List, [], ◌∷◌}
use Prim.Native.Nat.{ℕ, zero, suc, ◌<◌}
use native.Mathlib.Omega.{arith}
use borrow.Author.Tests.{lt-ltb}
use lib.Dec.{T}
use Rattle.program.specs.Asking.{Validity}
use Rattle.program.specs.File.{sizes}
use Rattle.program.specs.Graph.{Action, perform, test, leave, select, selected, edge, edge_at, graph, edges, edge_count, node_count, action_kind, action_entry}
use Rattle.program.specs.Parts.LinkingParts.{LinkedFrom}
use Rattle.program.specs.Meaning.{Meaning, nothing, assigns, stores, condition, performing, meaning}
use Rattle.program.specs.Parts.Node.{command_form, command_tree}
use Rattle.program.specs.Parts.Prepared.{entries_in, numbers_at, source_in, target_in, performed, guard_form, action_form, action_in, decoded_meaning, is_guard_node, PreparedEdge, Prepared, PreparedFor, PreparedLinked}
use Rattle.program.specs.Parts.Preceding.{plain, is_select}
use Rattle.program.specs.Parts.Preparing.{CodeIn, GraphIn}
use Rattle.program.specs.Questions.{validity}
use Rattle.program.specs.Parts.Sorted.{boolean_named, command_named, action_named, meaning_named, guard_test, action_of}
use Rattle.program.specs.Syntax.{Boolean, Command, skip, assign, store, sequence, conditional, iteration, guarded, choice, jump}
use Rattle.program.specs.Tree.{Entries, command_at, command_made}
use Rattle.program.specs.declared.CommandNode.{CommandNode}
use Rattle.program.specs.declared.CommandNode.TheVariants.{Skip, Assign, Store, Sequence, Conditional, Iteration, Guarded, Choice, Jump}
use Rattle.program.specs.declared.Construction.{Construction}
use Rattle.signs.proofs.Results.{raised_again}
use Rattle.std.specs.Result.{IsErrAnd}
use Rattle.program.specs.declared.Refusal.{Refusal}
use Rattle.program.proofs.Asking.{unanswered}
use Rattle.program.proofs.Actions.{edge_faithful}
use Rattle.program.proofs.Counts.{few_nodes, few_edges}
use Rattle.program.proofs.Fit.{counts}
use Rattle.program.proofs.Forms.{command_told}
use Rattle.program.proofs.Nodes.{edge_inside}
use Rattle.program.proofs.Precedence.{edge_follows}
use Rattle.program.proofs.Readings.{command_any}
use Rattle.program.proofs.SameTrees.{SameEntries, action_same}
use Rattle.program.proofs.Tests.{two, passed, is_true}
use Rattle.program.proofs.Threads.{prepared_kept}

-- what an action means has the names of the action
performing_named : (ns : List ℕ) (c : Command) → T (command_named ns c) → T (meaning_named ns (performing c))
unfolding command_named meaning_named performing
performing_named ns (skip k) t = tt
performing_named ns (assign k x a) t = t
performing_named ns (store k x i a) t = t
performing_named ns (sequence k c d) t = tt
performing_named ns (conditional k c) t = tt
performing_named ns (iteration k c) t = tt
performing_named ns (guarded k b c) t = tt
performing_named ns (choice k c d) t = tt
performing_named ns (jump k j) t = tt

pub meaning_named_lem : (ns : List ℕ) (x : Action) → T (action_named ns x) → T (meaning_named ns (meaning x))
unfolding action_named meaning_named meaning
meaning_named_lem ns (perform c) t = performing_named ns c t
meaning_named_lem ns (test b) t = t
meaning_named_lem ns (leave c) t = t
meaning_named_lem ns (select k earlier b) t = t

-- so has what it means without its earlier guards
last_named : (ns : List ℕ) (earlier : List Boolean) (b : Boolean) → boolean_named ns (selected earlier b) ≡ true → boolean_named ns b ≡ true
unfolding selected boolean_named
last_named ns [] b t = t
last_named ns (g ∷ earlier) b t = last_named ns earlier b (two (boolean_named ns g) (boolean_named ns (selected earlier b)) t).1

pub own_named : (ns : List ℕ) (x : Action) → T (meaning_named ns (meaning x)) → T (meaning_named ns (meaning (plain x)))
unfolding plain meaning meaning_named
own_named ns (perform c) t = t
own_named ns (test b) t = t
own_named ns (leave c) t = t
own_named ns (select k earlier b) t = passed (last_named ns earlier b (is_true _ t))

-- what a command does on an edge is what it performs
performed_means : (es : Entries) (n : ℕ) (k : CommandNode) → decoded_meaning es (performed k) ≡ performing (command_tree es n k)
unfolding decoded_meaning performed performing command_made
performed_means es n Skip = refl
performed_means es n (Assign x a) = refl
performed_means es n (Store x i a) = refl
performed_means es n (Sequence p q) = refl
performed_means es n (Conditional p) = refl
performed_means es n (Iteration p) = refl
performed_means es n (Guarded g p) = refl
performed_means es n (Choice p q) = refl
performed_means es n (Jump j) = refl

-- what a guarded command's guard is on an edge
guard_means : (es : Entries) (n : ℕ) (k : CommandNode) → decoded_meaning es (guard_form k) ≡ meaning (guard_test (command_tree es n k))
unfolding decoded_meaning guard_form guard_test meaning performing command_made
guard_means es n Skip = refl
guard_means es n (Assign x a) = refl
guard_means es n (Store x i a) = refl
guard_means es n (Sequence p q) = refl
guard_means es n (Conditional p) = refl
guard_means es n (Iteration p) = refl
guard_means es n (Guarded g p) = refl
guard_means es n (Choice p q) = refl
guard_means es n (Jump j) = refl

module _ (code words : List ℕ) where
  command_whole : (n : ℕ) → command_tree (entries_in code words) n (command_form (entries_in code words) 256 n) ≡ command_at (entries_in code words) n
  command_whole n = sym (command_any code words n ∙ command_told (entries_in code words) 256 n refl refl)

  command_means : (n : ℕ) → decoded_meaning (entries_in code words) (performed (command_form (entries_in code words) 256 n)) ≡ performing (command_at (entries_in code words) n)
  command_means n =
      let es = entries_in code words in
      performed_means es n (command_form es 256 n) ∙ ap performing (command_whole n)

  guarded_means : (n : ℕ) → decoded_meaning (entries_in code words) (guard_form (command_form (entries_in code words) 256 n)) ≡ meaning (guard_test (command_at (entries_in code words) n))
  guarded_means n =
      let es = entries_in code words in
      guard_means es n (command_form es 256 n) ∙ ap (λ c. meaning (guard_test c)) (command_whole n)

  -- a decoded action means what the action of its kind and entry does; the commands are the graph's, whatever the code
  action_means : (kind n : ℕ) → decoded_meaning (entries_in code words) (action_form (entries_in [] words) kind n) ≡ meaning (action_of (entries_in code words) kind n)
  unfolding action_form action_of meaning performing decoded_meaning command_form entries_in
  action_means zero n = refl
  action_means (suc zero) n = command_means n
  action_means (suc (suc zero)) n = refl
  action_means (suc (suc (suc zero))) n = refl
  action_means (suc (suc (suc (suc zero)))) n = guarded_means n
  action_means (suc (suc (suc (suc (suc k))))) n = refl

-- a decoded action is a guard's where the action is
unfoldable is_condition : Meaning → Bool
is_condition nothing = false
is_condition (assigns x a) = false
is_condition (stores x i a) = false
is_condition (condition b) = true

no_guard : (k : CommandNode) → is_guard_node (performed k) ≡ false
unfolding is_guard_node performed
no_guard Skip = refl
no_guard (Assign x a) = refl
no_guard (Store x i a) = refl
no_guard (Sequence p q) = refl
no_guard (Conditional p) = refl
no_guard (Iteration p) = refl
no_guard (Guarded g p) = refl
no_guard (Choice p q) = refl
no_guard (Jump j) = refl

some_guard : (es : Entries) (k : CommandNode) → is_guard_node (guard_form k) ≡ is_condition (decoded_meaning es (guard_form k))
unfolding is_guard_node guard_form decoded_meaning is_condition
some_guard es Skip = refl
some_guard es (Assign x a) = refl
some_guard es (Store x i a) = refl
some_guard es (Sequence p q) = refl
some_guard es (Conditional p) = refl
some_guard es (Iteration p) = refl
some_guard es (Guarded g p) = refl
some_guard es (Choice p q) = refl
some_guard es (Jump j) = refl

guard_told : (es fs : Entries) (x : Action) → decoded_meaning es (action_form fs (action_kind x) (action_entry x)) ≡ meaning (plain x) → is_guard_node (action_form fs (action_kind x) (action_entry x)) ≡ is_select x
unfolding action_form action_kind action_entry is_select is_guard_node plain meaning is_condition
guard_told es fs (perform c) h = no_guard _
guard_told es fs (test b) h = refl
guard_told es fs (leave c) h = refl
guard_told es fs (select k earlier b) h = some_guard es _ ∙ ap is_condition h

module _ (κ : Construction) (s : List ℕ) (fit : validity s ≡ Ok tt) (code words : List ℕ) (c : CodeIn s code) (g : GraphIn κ s words) where
  same_entries : SameEntries s (entries_in code words)
  unfolding entries_in numbers_at
  same_entries =
      let known = counts s fit in
      let a = known.arithmetic in
      let b = known.boolean in
      let d = known.commands in
      record {
        kind = λ n h. rw (lt-ltb n 512 (omega arith)) (c.kind n h);
        p = λ n h. rw (lt-ltb n 512 (omega arith)) (c.p n h);
        q = λ n h. rw (lt-ltb n 512 (omega arith)) (c.q n h);
        booleans = λ n h. rw (lt-ltb n 256 (omega arith)) (c.booleans n h);
        commands = λ n h. rw (lt-ltb n 256 (omega arith)) (g.commands n h);
      }

  edge_prepared : (e : ℕ) → e < edge_count κ s → PreparedEdge (sizes s) (graph κ s) code words e
  unfolding source_in target_in action_in edge_at edges node_count
  edge_prepared e h =
      let known = g.edge e h in
      let here = edge_faithful s fit κ e (edge 0 (perform (skip 0)) 0) h in
      let inside = edge_inside κ s e (edge 0 (perform (skip 0)) 0) h in
      let means = action_means code words _ _ ∙ ap meaning (action_same s fit (entries_in code words) same_entries _ _ here.exists ∙ sym here.same) in
      record {
        source = known.source;
        target = known.target;
        from = inside.source_inside;
        to = inside.target_inside;
        action = rw (known.kind, known.entry) means;
        named = meaning_named_lem (sizes s) _ here.named;
        guard = rw (known.kind, known.entry) (guard_told (entries_in code words) (entries_in [] words) _ means);
        follows = edge_follows s fit κ e h;
      }

  pub prepared : Prepared (sizes s) (graph κ s) code words
  unfolding node_count edge_count edges
  prepared =
      record {
        coded = c.coded;
        few_nodes = few_nodes s fit κ;
        few_edges = few_edges s fit κ;
        nodes = g.nodes;
        edges = g.edges;
        edge = edge_prepared;
      }

-- what preparing replies: a refusal that is handed on, with any two arrays, and fit with these
pub refused_for : (κ : Construction) (s : List ℕ) {v r : Validity} {x : Refusal} (code words : List ℕ) → v ≡ validity s → IsErrAnd r (λ y. y ≡ x) → v ≡ Err x → PreparedFor κ s r code words
refused_for κ s {r = r} code words e h was = record { asked = raised_again r h was ∙ e; prepared = unanswered _ _ h }

pub prepared_for : (κ : Construction) (s : List ℕ) (code words : List ℕ) → validity s ≡ Ok tt → CodeIn s code → GraphIn κ s words → PreparedFor κ s (Ok tt) code words
prepared_for κ s code words fit c g = record { asked = sym fit; prepared = λ same. prepared κ s fit code words c g }

-- and the reply with the links: a refusal with any two arrays, and fit with these
pub refused_linked : (κ : Construction) (s : List ℕ) {v r : Validity} {x : Refusal} (code words : List ℕ) → PreparedFor κ s v code words → IsErrAnd r (λ y. y ≡ x) → v ≡ Err x → PreparedLinked κ s r code words
refused_linked κ s code words p h was = record { prepared = refused_for κ s code words p.asked h was; linked = unanswered _ _ h }

pub prepared_linked : (κ : Construction) (s : List ℕ) {v : Validity} (code old new : List ℕ) → PreparedFor κ s v code old → v ≡ Ok tt → LinkedFrom old new → PreparedLinked κ s (Ok tt) code new
prepared_linked κ s code old new p was l =
    record {
      prepared = record { asked = sym was ∙ p.asked; prepared = λ fit. prepared_kept l.same (p.prepared was) };
      linked = λ fit. l.linked;
    }
