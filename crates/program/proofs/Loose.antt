-- Laws of question 20: the lowest jump outside every do is the first that is asked about and answered no; where no command is a jump there is none; and it depends
-- on the commands alone.
use Rattle.std.specs.Prelude.{Ok}
use mathlib.Core.Path.{◌≡◌, refl, sym, ◌∙◌, ap}
use mathlib.Core.Bool.{Bool, true, false, false≢true, ◌||◌, or-true}
use mathlib.Core.List.{List, [], ◌++◌}
use Prim.Native.Nat.{ℕ, ◌+◌, ◌-◌, ◌≤◌, ◌<◌, min}
use native.Mathlib.Decide.{dec_le, dec_lt}
use native.Mathlib.Nat.{le_refl}
use native.Mathlib.Omega.{arith}
use lib.Dec.{leb}
use borrow.Author.Tests.{eq-eqb, ne_eqb, le-leb, lt-leb, leb-false}
use Rattle.program.specs.Asking.{ask, is_refused, Validity}
use Rattle.program.specs.File.{span_of, entry_count, entry_offset, entry}
use Rattle.program.specs.Graph.{Around, past, guards, part}
use Rattle.program.specs.Jumps.{loose}
use Rattle.program.specs.Kind.{command_kind}
use Rattle.program.specs.Parts.GraphingParts.{part_at}
use Rattle.program.specs.Parts.Jumping.{may_jump, lowest}
use Rattle.program.specs.Parts.Layouts.{LaidOut}
use Rattle.program.specs.Parts.Node.{command_tree}
use Rattle.program.specs.Questions.{jump_validity, jumps_validity, validity}
use Rattle.program.specs.Syntax.{Command, skip, assign, store, sequence, conditional, iteration, guarded, choice, jump}
use Rattle.program.specs.Tree.{Entries, command_made, command_at, last_command, script}
use Rattle.program.specs.declared.CommandNode.{CommandNode}
use Rattle.program.specs.declared.CommandNode.TheVariants.{Skip, Assign, Store, Sequence, Conditional, Iteration, Guarded, Choice, Jump}
use Rattle.program.specs.declared.Construction.{Construction}
use Rattle.program.specs.declared.Layout.{Layout}
use Rattle.program.specs.declared.Table.TheVariants.{Commands}
use Rattle.program.proofs.Asking.{each_yes, each_stops}
use Rattle.program.proofs.Fit.{tight_fit}
use Rattle.program.proofs.Forms.{by_parts}
use Rattle.program.proofs.Induction.{by_kind}
use Rattle.program.proofs.Made.{Made, make_skip, make_assign, make_store, make_sequence, make_conditional, make_iteration, make_guarded, make_choice, make_jump}
use Rattle.program.proofs.Reading.{laid_count}
use Rattle.program.proofs.Sorting.{script_made}
use Rattle.program.proofs.Tests.{neither}
use Rattle.program.proofs.Trees.{command_below_lem}

-- ---- the lowest is what it says

lowest_most : (c : Command) (found : ℕ) → lowest c found ≤ found
unfolding lowest
lowest_most (skip k) f = le_refl f
lowest_most (assign k x a) f = le_refl f
lowest_most (store k x i a) f = le_refl f
lowest_most (sequence k c d) f = omega (arith, lowest_most d (lowest c f), lowest_most c f)
lowest_most (conditional k c) f = lowest_most c f
lowest_most (iteration k c) f = le_refl f
lowest_most (guarded k b c) f = lowest_most c f
lowest_most (choice k c d) f = omega (arith, lowest_most d (lowest c f), lowest_most c f)
lowest_most (jump k j) f = omega arith

-- no entry below it is loose
lowest_none : (c : Command) (found n : ℕ) → n < lowest c found → loose n c ≡ false
unfolding lowest loose
lowest_none (skip k) f n h = refl
lowest_none (assign k x a) f n h = refl
lowest_none (store k x i a) f n h = refl
lowest_none (sequence k c d) f n h = rw (lowest_none c f n (omega (arith, lowest_most d (lowest c f)))) (lowest_none d (lowest c f) n h)
lowest_none (conditional k c) f n h = lowest_none c f n h
lowest_none (iteration k c) f n h = refl
lowest_none (guarded k b c) f n h = lowest_none c f n h
lowest_none (choice k c d) f n h = rw (lowest_none c f n (omega (arith, lowest_most d (lowest c f)))) (lowest_none d (lowest c f) n h)
lowest_none (jump k j) f n h = ne_eqb k n (omega arith)

-- where it is lower than what was found before, it is loose: in one of two parts
two_found : (c d : Command) (f : ℕ) → (lowest c f < f → loose (lowest c f) c ≡ true) → (lowest d (lowest c f) < lowest c f → loose (lowest d (lowest c f)) d ≡ true)
    → lowest d (lowest c f) < f → (loose (lowest d (lowest c f)) c || loose (lowest d (lowest c f)) d) ≡ true
two_found c d f first second h =
    elim (dec_lt (lowest d (lowest c f)) (lowest c f)) [
      | yes l ↦ rw (second l) (or-true (loose (lowest d (lowest c f)) c))
      | no l ↦
          let same : lowest d (lowest c f) ≡ lowest c f = omega (arith, lowest_most d (lowest c f)) in
          rw (same, first (omega arith))
    ]

lowest_loose : (c : Command) (found : ℕ) → lowest c found < found → loose (lowest c found) c ≡ true
unfolding lowest loose
lowest_loose (skip k) f h = absurd (omega arith)
lowest_loose (assign k x a) f h = absurd (omega arith)
lowest_loose (store k x i a) f h = absurd (omega arith)
lowest_loose (sequence k c d) f h = two_found c d f (lowest_loose c f) (lowest_loose d (lowest c f)) h
lowest_loose (conditional k c) f h = lowest_loose c f h
lowest_loose (iteration k c) f h = absurd (omega arith)
lowest_loose (guarded k b c) f h = lowest_loose c f h
lowest_loose (choice k c d) f h = two_found c d f (lowest_loose c f) (lowest_loose d (lowest c f)) h
lowest_loose (jump k j) f h = eq-eqb k (min k f) (omega arith)

-- ---- where the commands stand

-- the lowest in the last of them, as a part of all
pub last_lowest : {s : List ℕ} {l : Layout} {r : ℕ} → LaidOut s l → r ≡ lowest (part_at (entry s) l.commands.count (l.commands.count - 1)) l.commands.count → r ≡ lowest (script s) (entry_count s Commands)
unfolding script last_command span_of
last_lowest {s} {l} laid e =
    let here : l.commands.count ≡ entry_count s Commands = laid_count s l laid.same Commands in
    let some = laid.some in
    e ∙ rw (here, command_below_lem (entry s) (entry_count s Commands) (entry_count s Commands - 1) (omega arith))

-- ---- question 20, by the lowest

module _ (s : List ℕ) where
  abbrev count : ℕ
  count = entry_count s Commands

  -- nothing is loose: yes
  none_loose : ((n : ℕ) → n < count → loose n (script s) ≡ false) → jumps_validity s ≡ Ok tt
  unfolding jumps_validity jump_validity ask
  none_loose h = each_yes count (jump_validity s) (λ n l. rw (h n l))

  pub asked_lowest : {found : ℕ} {v : Validity} → found ≡ lowest (script s) count → v ≡ ask (leb count found) 20 (entry_offset s Commands found) → v ≡ jumps_validity s
  unfolding jumps_validity jump_validity ask is_refused
  asked_lowest {found} {v} same e =
      elim (dec_le count found) [
        | yes h ↦ e ∙ fit h ∙ sym (none_loose (λ n l. passed_over n (omega arith)))
        | no h ↦ stop (omega arith)
      ]
    where
      passed_over : (n : ℕ) → n < found → loose n (script s) ≡ false
      passed_over n l = lowest_none (script s) count n (rw same at l)

      fit : count ≤ found → ask (leb count found) 20 (entry_offset s Commands found) ≡ Ok tt
      fit h = ap (λ (b : Bool). ask b 20 (entry_offset s Commands found)) (le-leb count found h)

      stop : found < count → v ≡ jumps_validity s
      stop h =
          let here : loose found (script s) ≡ true = ap (λ (n : ℕ). loose n (script s)) same ∙ lowest_loose (script s) count (rw same at h) in
          let no : v ≡ jump_validity s found = e ∙ rw (here, lt-leb count found h) in
          each_stops count (jump_validity s) found v true h (each_yes found (jump_validity s) (λ n l. rw (passed_over n l))) no (rw (no, here)) refl

-- ---- no command is a jump, so none is loose

-- what an entry of a kind before those of the jumps is
abbrev NoJump : CommandNode → Type 0
NoJump Skip = Unit
NoJump (Assign x a) = Unit
NoJump (Store x i a) = Unit
NoJump (Sequence p q) = Unit
NoJump (Conditional p) = Unit
NoJump (Iteration p) = Unit
NoJump (Guarded g p) = Unit
NoJump (Choice p q) = Unit
NoJump (Jump j) = ⊥

no_jump : (k p q r : ℕ) → k < 8 → NoJump (command_kind (record { kind = k; p = p; q = q; r = r }))
unfolding command_kind
no_jump =
    by_kind _
    (λ p q r e. tt) (λ p q r e. tt) (λ p q r e. tt) (λ p q r e. tt) (λ p q r e. tt) (λ p q r e. tt) (λ p q r e. tt) (λ p q r e. tt)
    (λ k p q r e. absurd (omega arith))

tree_tight : (es : Entries) (n m : ℕ) → ((k : ℕ) → loose m (part_at es n k) ≡ false) → (x : CommandNode) → NoJump x → loose m (command_tree es n x) ≡ false
unfolding command_made loose
tree_tight es n m below Skip h = refl
tree_tight es n m below (Assign x a) h = refl
tree_tight es n m below (Store x i a) h = refl
tree_tight es n m below (Sequence p q) h = rw (below p) (below q)
tree_tight es n m below (Conditional p) h = below p
tree_tight es n m below (Iteration p) h = refl
tree_tight es n m below (Guarded g p) h = below p
tree_tight es n m below (Choice p q) h = rw (below p) (below q)
tree_tight es n m below (Jump j) h = absurd h

pub no_jumps : (s : List ℕ) → 1 ≤ entry_count s Commands → ((n : ℕ) → n < entry_count s Commands → may_jump s Commands n ≡ false) → jumps_validity s ≡ Ok tt
unfolding may_jump script last_command loose
no_jumps s some none = none_loose s (λ m l. rw (← command_below_lem (entry s) (entry_count s Commands) (last_command s) (omega arith)) (tight m))
  where
    tight : (m : ℕ) → loose m (part_at (entry s) (entry_count s Commands) (last_command s)) ≡ false
    tight m =
        by_parts (entry s) (entry s) (λ c d. loose m c ≡ false) (entry_count s Commands)
        (λ n. refl)
        (λ n h below. tree_tight (entry s) n m below _ (no_jump _ _ _ _ (leb-false 8 _ (none n h))))
        (λ n h. refl) (entry_count s Commands) (le_refl _) (last_command s)

-- ---- two readings with the same commands have the same loose jumps

tree_same : (es fs : Entries) (n : ℕ) → ((k m : ℕ) → loose m (part_at es n k) ≡ loose m (part_at fs n k)) → (x : CommandNode) (m : ℕ)
    → loose m (command_tree es n x) ≡ loose m (command_tree fs n x)
unfolding command_made loose
tree_same es fs n same Skip m = refl
tree_same es fs n same (Assign x a) m = refl
tree_same es fs n same (Store x i a) m = refl
tree_same es fs n same (Sequence p q) m = rw (same p m, same q m)
tree_same es fs n same (Conditional p) m = same p m
tree_same es fs n same (Iteration p) m = refl
tree_same es fs n same (Guarded g p) m = same p m
tree_same es fs n same (Choice p q) m = rw (same p m, same q m)
tree_same es fs n same (Jump j) m = refl

pub same_loose : (es fs : Entries) (top : ℕ) → ((n : ℕ) → n < top → es Commands n ≡ fs Commands n) → (n : ℕ) → n < top → (m : ℕ)
    → loose m (command_at es n) ≡ loose m (command_at fs n)
same_loose es fs top same n h =
    rw (← command_below_lem es top n h, ← command_below_lem fs top n h)
    (by_parts es fs (λ c d. (m : ℕ) → loose m c ≡ loose m d) top (λ n m. refl) (λ n l below. tree_same es fs n below _) same top (le_refl top) n)

-- ---- a well-formed file has no loose jump, so what stands around its script makes no difference

-- no tree has an entry past the last
past_tight : {s : List ℕ} {g : Bool} {k : ℕ} {c : Command} → Made s g k c → (n : ℕ) → entry_count s Commands ≤ n → loose n c ≡ false
unfolding loose
past_tight (make_skip e) n h = refl
past_tight (make_assign e x a) n h = refl
past_tight (make_store e x i a) n h = refl
past_tight (make_sequence e l m c d) n h = rw (past_tight c n h) (past_tight d n h)
past_tight (make_conditional e l c) n h = past_tight c n h
past_tight (make_iteration e l c) n h = refl
past_tight (make_guarded e b l c) n h = past_tight c n h
past_tight (make_choice e l m c d) n h = rw (past_tight c n h) (past_tight d n h)
past_tight (make_jump e) n h = ne_eqb _ n (λ same. omega (arith, e.exists))

pub no_loose : (s : List ℕ) → validity s ≡ Ok tt → (n : ℕ) → loose n (script s) ≡ false
no_loose s fit n =
    elim (dec_le (entry_count s Commands) n) [
      | yes h ↦ past_tight (script_made s fit) n h
      | no h ↦ tight_fit s fit n (omega arith)
    ]

pub same_around : (κ : Construction) (c : Command) → ((n : ℕ) → loose n c ≡ false) → (o p : Around) → o.earlier ≡ p.earlier → (a b n : ℕ) → part κ o c a b n ≡ part κ p c a b n
unfolding loose part
same_around κ (skip k) h o p e a b n = refl
same_around κ (assign k x i) h o p e a b n = refl
same_around κ (store k x i j) h o p e a b n = refl
same_around κ (sequence k c d) h o p e a b n =
    rw (same_around κ c (λ m. (neither (loose m c) (loose m d) (h m)).0) o p e a n (n + 1), same_around κ d (λ m. (neither (loose m c) (loose m d) (h m)).1) o p e n b (part κ p c a n (n + 1)).fresh)
same_around κ (conditional k c) h o p e a b n = same_around κ c h (past o []) (past p []) refl a b n
same_around κ (iteration k c) h o p e a b n = refl
same_around κ (guarded k g c) h o p e a b n = rw (same_around κ c h o p e n b (n + 1), e)
same_around κ (choice k c d) h o p e a b n =
    rw (
      same_around κ c (λ m. (neither (loose m c) (loose m d) (h m)).0) o p e a b n,
      same_around κ d (λ m. (neither (loose m c) (loose m d) (h m)).1) (past o (o.earlier ++ guards c)) (past p (p.earlier ++ guards c)) (ap (λ x. x ++ guards c) e) a b (part κ p c a b n).fresh,
    )
same_around κ (jump k j) h o p e a b n = absurd (false≢true (sym (h k) ∙ eq-eqb k k refl))
