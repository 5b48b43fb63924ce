-- Laws of drawing into a prepared graph: numbers written one part after the other, and a command's numbers by what its entry is.
use mathlib.Core.Path.{◌≡◌, refl, ◌∙◌, ap, sym}
use mathlib.Core.List.{List, [], ◌∷◌, ◌++◌, append-nil, flat_map}
use Prim.Native.Nat.{ℕ, ◌+◌, ◌*◌, ◌≤◌, ◌<◌}
use native.Mathlib.Decide.{dec_le}
use native.Mathlib.Nat.{le_refl}
use native.Mathlib.Omega.{arith}
use lib.ListN.{get_or, length-append}
use borrow.Author.Tests.{lt-ltb, le-ltb}
use Rattle.program.specs.Graph.{edge, Around, within, past, landing, guards, guard_action, part, action_kind, action_entry}
use Rattle.program.specs.Parts.GraphingParts.{edge_words, Strip, strip, guard_kind, guard_entry, edge_strip, fresh_of, next_of, Drew, Room, part_at}
use Rattle.program.specs.Parts.Node.{command_form, command_tree}
use Rattle.program.specs.Parts.Prepared.{edge_place, numbers_at, entries_in}
use Rattle.program.specs.Syntax.{Boolean as BooleanTree, Command, command_entry}
use Rattle.program.specs.Tree.{Entries, boolean_at, command_made}
use Rattle.program.specs.declared.CommandNode.{CommandNode}
use Rattle.program.specs.declared.CommandNode.TheVariants.{Skip, Assign, Store, Sequence, Conditional, Iteration, Guarded, Choice, Jump}
use Rattle.program.specs.declared.Construction.{Construction}
use Rattle.program.specs.declared.Construction.TheVariants.{Nondeterministic, Deterministic}
use Rattle.program.specs.declared.Table.{Table}
use Rattle.program.specs.declared.Table.TheVariants.{Arithmetic, Boolean, Commands}
use Rattle.program.proofs.Forms.{command_told, by_parts}
use Rattle.program.proofs.Lists.{concat_append}
use Rattle.program.proofs.Matching.{matched}
use Rattle.program.proofs.Nodes.{fresh_grows}
use Rattle.program.proofs.Overlaid.{over_then, over_before}
use Rattle.program.proofs.Trees.{boolean_entry_lem, command_below_lem, command_past, command_entry_lem}

-- a part, and then one that starts at the fresh node to which the first comes
unfoldable pub followed : Strip → (ℕ → Strip) → Strip
followed x y = record { words = x.words ++ (y x.fresh).words; fresh = (y x.fresh).fresh }

module _ (x : Strip) (y : ℕ → Strip) {k : ℕ} where
  pub first_room : ((f : ℕ) → f ≤ (y f).fresh) → Room (followed x y) k → Room x k
  unfolding followed
  first_room grows room =
      record {
        words_fit = omega (arith, length-append x.words (y x.fresh).words, room.words_fit);
        nodes_fit = omega (arith, room.nodes_fit, grows x.fresh);
      }

  pub second_room : {a b : List ℕ} {r : ℕ} → Room (followed x y) k → Drew x k a b r → Room (y (fresh_of r)) (next_of r)
  unfolding followed
  second_room room d =
      rw d.fresh
      record {
        words_fit = omega (arith, length-append x.words (y x.fresh).words, room.words_fit, d.next);
        nodes_fit = room.nodes_fit;
      }

  pub both_drawn : {a b c : List ℕ} {r t : ℕ} → Room (followed x y) k → Drew x k a b r → Drew (y (fresh_of r)) (next_of r) b c t → Drew (followed x y) k a c t
  unfolding followed
  both_drawn {a = a} room d e =
      let last = rw d.fresh at e in
      record {
        size = d.size;
        written = over_then a (edge_place + 4 * k) x.words (y x.fresh).words (omega (arith, room.words_fit, d.size)) d.written (omega (arith, d.next)) last.written;
        fresh = last.fresh;
        next = omega (arith, d.next, last.next, length-append x.words (y x.fresh).words);
      }

-- a part with nothing after it
pub drew_only : (x : Strip) {k : ℕ} {a b : List ℕ} {r : ℕ} → Drew x k a b r → Drew (followed x (λ f. record { words = []; fresh = f })) k a b r
unfolding followed
drew_only x d = rw append-nil d

-- the entries depend on the numbers of the commands alone
module _ (code a b : List ℕ) (kept : (i : ℕ) → i < edge_place → get_or b i 0 ≡ get_or a i 0) where
  same_entry : (t : Table) (n : ℕ) → entries_in code b t n ≡ entries_in code a t n
  unfolding entries_in numbers_at
  same_entry Arithmetic n = refl
  same_entry Boolean n = refl
  same_entry Commands n =
      elim (dec_le 256 n) [
        | yes h ↦ rw (le-ltb n 256 h)
        | no h ↦ rw (lt-ltb n 256 (omega arith), kept (4 * n) (omega arith), kept (4 * n + 1) (omega arith), kept (4 * n + 2) (omega arith), kept (4 * n + 3) (omega arith))
      ]

  pub same_entries : entries_in code b ≡ entries_in code a
  same_entries = λ i t n. same_entry t n i

-- drawing leaves them as they are
pub drew_entries : (x : Strip) {k : ℕ} {a b : List ℕ} {r : ℕ} → 4 * k ≤ 1020 → Drew x k a b r → entries_in [] b ≡ entries_in [] a
drew_entries x {k} {a} {b} few d =
    same_entries [] a b
    (λ i h. ap (λ (l : List ℕ). get_or l i 0) d.written ∙ over_before (edge_place + 4 * k) x.words a i (omega arith) (omega (arith, d.size)))

strip_grows : (κ : Construction) (o : Around) (c : Command) (a b n : ℕ) → n ≤ (strip κ o c a b n).fresh
unfolding strip
strip_grows = fresh_grows

-- a fresh node, or a pen, after the node that a command takes before its first part
unfoldable pub taking : CommandNode → ℕ → ℕ
taking Skip f = f
taking (Assign x e) f = f
taking (Store x i e) f = f
taking (Sequence p q) f = f + 1
taking (Conditional p) f = f
taking (Iteration p) f = f
taking (Guarded g p) f = f + 1
taking (Choice p q) f = f
taking (Jump j) f = f

-- such a pen has such a fresh node, and its edge
pub record Taken (c : CommandNode) (pen : ℕ) : Type 0 where
  pub fresh : fresh_of (taking c pen) ≡ taking c (fresh_of pen)
  pub next : next_of (taking c pen) ≡ next_of pen

pub taken : (c : CommandNode) (pen : ℕ) → taking c (fresh_of pen) < 65536 → Taken c pen
unfolding taking
taken Skip pen h = record { fresh = refl; next = refl }
taken (Assign x e) pen h = record { fresh = refl; next = refl }
taken (Store x i e) pen h = record { fresh = refl; next = refl }
taken (Sequence p q) pen h = record { fresh = omega arith; next = omega arith }
taken (Conditional p) pen h = record { fresh = refl; next = refl }
taken (Iteration p) pen h = record { fresh = refl; next = refl }
taken (Guarded g p) pen h = record { fresh = omega arith; next = omega arith }
taken (Choice p q) pen h = record { fresh = refl; next = refl }
taken (Jump j) pen h = record { fresh = refl; next = refl }

-- earlier guards make no difference to the numbers
strip_past : (κ : Construction) (o : Around) (gs hs : List BooleanTree) (c : Command) (a b n : ℕ) → strip κ (past o gs) c a b n ≡ strip κ (past o hs) c a b n
unfolding strip edge_words action_kind action_entry guard_action
strip_past κ o gs hs c a b n =
    let m = matched edge_words edge_words κ κ (λ a n k gs hs b. guard_same κ a n k gs hs b) (λ a b c. refl) (λ a b c. refl) c o.first o.last gs hs a b n in
    λ i. record { words = m.made i; fresh = m.fresh i }
  where
    guard_same : (κ : Construction) (a n k : ℕ) (gs hs : List BooleanTree) (b : BooleanTree) → edge_words (edge a (guard_action κ gs k b) n) ≡ edge_words (edge a (guard_action κ hs k b) n)
    guard_same Nondeterministic a n k gs hs b = refl
    guard_same Deterministic a n k gs hs b = refl

-- the first part of a command at entry k whose fresh node is n, inside o, and the rest, each from the fresh node f on
unfoldable pub first_as : Construction → Entries → Around → ℕ → CommandNode → ℕ → ℕ → ℕ → ℕ → Strip
first_as κ es o k Skip a b n f = edge_strip a b 1 k f
first_as κ es o k (Assign x e) a b n f = edge_strip a b 1 k f
first_as κ es o k (Store x i e) a b n f = edge_strip a b 1 k f
first_as κ es o k (Sequence p q) a b n f = strip κ o (part_at es k p) a n f
first_as κ es o k (Conditional p) a b n f = strip κ o (part_at es k p) a b f
first_as κ es o k (Iteration p) a b n f = strip κ (within a b) (part_at es k p) a a f
first_as κ es o k (Guarded g p) a b n f = edge_strip a n (guard_kind κ) (guard_entry κ k g) f
first_as κ es o k (Choice p q) a b n f = strip κ o (part_at es k p) a b f
first_as κ es o k (Jump j) a b n f = edge_strip a (landing o j) 1 k f

unfoldable pub rest_as : Construction → Entries → Around → ℕ → CommandNode → ℕ → ℕ → ℕ → ℕ → Strip
rest_as κ es o k Skip a b n f = record { words = []; fresh = f }
rest_as κ es o k (Assign x e) a b n f = record { words = []; fresh = f }
rest_as κ es o k (Store x i e) a b n f = record { words = []; fresh = f }
rest_as κ es o k (Sequence p q) a b n f = strip κ o (part_at es k q) n b f
rest_as κ es o k (Conditional p) a b n f = record { words = []; fresh = f }
rest_as κ es o k (Iteration p) a b n f = edge_strip a b 3 p f
rest_as κ es o k (Guarded g p) a b n f = strip κ o (part_at es k p) n b f
rest_as κ es o k (Choice p q) a b n f = strip κ o (part_at es k q) a b f
rest_as κ es o k (Jump j) a b n f = record { words = []; fresh = f }

pub first_grows : (κ : Construction) (es : Entries) (o : Around) (k : ℕ) (c : CommandNode) (a b n f : ℕ) → f ≤ (first_as κ es o k c a b n f).fresh
unfolding first_as edge_strip
first_grows κ es o k Skip a b n f = le_refl f
first_grows κ es o k (Assign x e) a b n f = le_refl f
first_grows κ es o k (Store x i e) a b n f = le_refl f
first_grows κ es o k (Sequence p q) a b n f = strip_grows κ o _ a n f
first_grows κ es o k (Conditional p) a b n f = strip_grows κ o _ a b f
first_grows κ es o k (Iteration p) a b n f = strip_grows κ (within a b) _ a a f
first_grows κ es o k (Guarded g p) a b n f = le_refl f
first_grows κ es o k (Choice p q) a b n f = strip_grows κ o _ a b f
first_grows κ es o k (Jump j) a b n f = le_refl f

pub rest_grows : (κ : Construction) (es : Entries) (o : Around) (k : ℕ) (c : CommandNode) (a b n f : ℕ) → f ≤ (rest_as κ es o k c a b n f).fresh
unfolding rest_as edge_strip
rest_grows κ es o k Skip a b n f = le_refl f
rest_grows κ es o k (Assign x e) a b n f = le_refl f
rest_grows κ es o k (Store x i e) a b n f = le_refl f
rest_grows κ es o k (Sequence p q) a b n f = strip_grows κ o _ n b f
rest_grows κ es o k (Conditional p) a b n f = le_refl f
rest_grows κ es o k (Iteration p) a b n f = le_refl f
rest_grows κ es o k (Guarded g p) a b n f = strip_grows κ o _ n b f
rest_grows κ es o k (Choice p q) a b n f = strip_grows κ o _ a b f
rest_grows κ es o k (Jump j) a b n f = le_refl f

-- the numbers of a command at entry k
unfoldable pub drawn_as : Construction → Entries → Around → ℕ → CommandNode → ℕ → ℕ → ℕ → Strip
drawn_as κ es o k c a b n = followed (first_as κ es o k c a b n (taking c n)) (rest_as κ es o k c a b n)

module _ (es : Entries) where
  -- a part's entry
  part_entry : (n p : ℕ) → command_entry (part_at es n p) ≡ p
  unfolding command_entry
  part_entry n p =
      elim (dec_le n p) [
        | yes h ↦ ap command_entry (command_past es n p h)
        | no h ↦ ap command_entry (command_below_lem es n p (omega arith)) ∙ command_entry_lem es p
      ]

  -- a guard's numbers
  guard_words : (κ : Construction) (earlier : List BooleanTree) (k g : ℕ) {a n : ℕ} → edge_words (edge a (guard_action κ earlier k (boolean_at es g)) n) ≡ a ∷ n ∷ guard_kind κ ∷ guard_entry κ k g ∷ []
  unfolding edge_words guard_action action_kind action_entry guard_kind guard_entry
  guard_words Nondeterministic earlier k g = rw (boolean_entry_lem es g)
  guard_words Deterministic earlier k g = refl

  tree_strip : (κ : Construction) (o : Around) (n : ℕ) (k : CommandNode) (a b f : ℕ) → strip κ o (command_tree es n k) a b f ≡ drawn_as κ es o n k a b f
  unfolding command_made drawn_as taking first_as rest_as followed strip edge_strip part guard_action flat_map edge_words action_kind action_entry command_entry
  tree_strip κ o n Skip a b f = refl
  tree_strip κ o n (Assign x e) a b f = refl
  tree_strip κ o n (Store x i e) a b f = refl
  tree_strip κ o n (Sequence p q) a b f = rw concat_append
  tree_strip κ o n (Conditional p) a b f = rw (append-nil, strip_past κ o [] o.earlier (part_at es n p) a b f)
  tree_strip κ o n (Iteration p) a b f = rw (concat_append, part_entry)
  tree_strip κ o n (Guarded g p) a b f =
      λ i.
      record {
        words = guard_words κ o.earlier n g {a = a} {n = f} i ++ flat_map edge_words (part κ o (part_at es n p) f b (f + 1)).edges;
        fresh = (part κ o (part_at es n p) f b (f + 1)).fresh;
      }
  tree_strip κ o n (Choice p q) a b f =
      let m = strip_past κ o (o.earlier ++ guards (part_at es n p)) o.earlier (part_at es n q) a b (part κ o (part_at es n p) a b f).fresh in
      rw (concat_append, ap (λ x. x.words) m, ap (λ x. x.fresh) m)
  tree_strip κ o n (Jump j) a b f = refl

  -- the numbers of entry n as a part of entry bound, by what it is
  pub strip_part : (κ : Construction) (o : Around) (bound n : ℕ) {x k : CommandNode} → x ≡ command_form es bound n → x ≡ k → (a b f : ℕ) → strip κ o (part_at es bound n) a b f ≡ drawn_as κ es o n k a b f
  strip_part κ o bound n {k = k} same told a b f = rw (command_told es bound n same told) (tree_strip κ o n k a b f)

-- two readings with the same commands below an entry: its parts have the same numbers
module _ (es fs : Entries) where
  abbrev SameStrip : Command → Command → Type 0
  SameStrip c d = (κ : Construction) (o : Around) (a b f : ℕ) → strip κ o c a b f ≡ strip κ o d a b f

  drawn_same : (n : ℕ) → ((m : ℕ) → SameStrip (part_at es n m) (part_at fs n m)) → (k : CommandNode) (κ : Construction) (o : Around) (a b f : ℕ) → drawn_as κ es o n k a b f ≡ drawn_as κ fs o n k a b f
  unfolding drawn_as taking first_as rest_as followed
  drawn_same n same Skip κ o a b f = refl
  drawn_same n same (Assign x e) κ o a b f = refl
  drawn_same n same (Store x i e) κ o a b f = refl
  drawn_same n same (Sequence p q) κ o a b f = rw (same p, same q)
  drawn_same n same (Conditional p) κ o a b f = rw (same p)
  drawn_same n same (Iteration p) κ o a b f = rw (same p)
  drawn_same n same (Guarded g p) κ o a b f = rw (same p)
  drawn_same n same (Choice p q) κ o a b f = rw (same p, same q)
  drawn_same n same (Jump j) κ o a b f = refl

  pub same_strip : (bound : ℕ) → ((k : ℕ) → k < bound → es Commands k ≡ fs Commands k) → (n : ℕ) → SameStrip (part_at es bound n) (part_at fs bound n)
  same_strip bound agreed =
      by_parts es fs SameStrip bound
      (λ n κ o a b f. refl)
      (λ n h same κ o a b f. tree_strip es κ o n _ a b f ∙ drawn_same n same _ κ o a b f ∙ sym (tree_strip fs κ o n _ a b f))
      agreed bound (le_refl bound)
