-- In a memory, the sign of an expression's value is in its sign set, and the truth of a condition is among its answers (book, Exercises 4.14 and
-- 4.16).
use Rattle.std.specs.Prelude.{Err, Ok, Result}
use Rattle.std.proofs.Common.{◌≡◌, ℕ, zero, suc, ◌+◌, ◌<◌, Bool, true, false, cond, not, ◌&&◌, T, ltb, List, map, length, get_or, ℤ, pos, negsuc, refl, ap, ◌∙◌, arith, ltb-true}
use mir.Facts.{and_yes}
use Rattle.signs.specs.Lists.{tabulate}
use Rattle.signs.specs.Number.{apply, compares}
use Rattle.signs.specs.Sign.{sign_of, single, has}
use Rattle.signs.specs.Grid.{operate}
use Rattle.signs.specs.Truth.{among, compare_sets, negated, conjoined, and_then as andAnswers}
use Rattle.signs.specs.declared.Operator.{Operator}
use Rattle.signs.specs.declared.Comparison.{Comparison}
use Rattle.signs.specs.declared.Reason.{Reason}
use Rattle.signs.specs.declared.Reason.TheVariants.{IndexNegative, IndexTooLarge}
use Rattle.signs.specs.declared.Sign.TheVariants.{Zero, Plus}
use Rattle.signs.proofs.Laws.{has_single, has_union_all, operate_sound, compare_sets_sound, among_certain, among_negated, conjoined_entry, and_then_entry}
use Rattle.signs.proofs.Lists.{or_left, or_right, any_of_map}
use Rattle.program.specs.File.{cells_of, first_cell, is_array}
use Rattle.program.specs.Parts.Sorted.{arith_named, boolean_named}
use Rattle.program.specs.Syntax.{Arith, number, variable, element, operator, Boolean, truth, comparison, conjunction, short_circuit, negation}
use Rattle.program.proofs.Lists.{get_or_tabulate}
use Rattle.program.proofs.Tests.{is_true}
use Rattle.semantics.specs.Expression.{fault, cell_value, at, nowhere, place_of, value_at, operated, combine, value, compare_values, conjoin, and_then, negate, truth_in, Evaluation, Truth}
use Rattle.semantics.specs.declared.Fault.{Fault}
use Rattle.analysis.specs.Abstraction.{signs_of, name_values, abstract_memory}
use Rattle.analysis.specs.Signs.{may_index, signs_in, truths_in}
use Rattle.semantics.proofs.Laws.{variable_there, array_there}
use Rattle.analysis.proofs.Tabulated.{any_of_at}

-- where an evaluation is undefined, it is no number; where a truth is, it is not known
pub no_number {ℓ} : {A : Type ℓ} (f : Fault) (z : ℤ) → Err f ≡ Ok z → A
no_number f z e = absurd (let z : ◌≡◌ {A = ℕ} 0 1 = cc in omega arith)

pub not_known {ℓ} : {A : Type ℓ} (f : Fault) (v : Bool) → Err f ≡ Ok v → A
not_known f v e = absurd (let z : ◌≡◌ {A = ℕ} 0 1 = cc in omega arith)

not_not : (b : Bool) → not (not b) ≡ b
not_not true = refl
not_not false = refl

-- a set of signs has the sign of each of its numbers
pub has_sign_of : (n : ℕ) (f : ℕ → ℤ) (j : ℕ) → j < n → T (has (signs_of (tabulate n f)) (sign_of (f j)))
unfolding signs_of
has_sign_of n f j h =
    rw (has_union_all (map (λ z. single (sign_of z)) (tabulate n f)) (sign_of (f j)), any_of_map (λ a. has a (sign_of (f j))) (λ z. single (sign_of z)) (tabulate n f))
    (any_of_at (λ z. has (single (sign_of z)) (sign_of (f j))) f n j h (has_single (sign_of (f j))))

-- an index of a sign that is not minus can be in an array
pub may_index_lem : (set i : ℕ) → T (has set (sign_of (pos i))) → T (may_index set)
unfolding may_index sign_of
may_index_lem set zero t = or_left (has set Zero) (has set Plus) t
may_index_lem set (suc i) t = or_right (has set Zero) (has set Plus) t

module _ (ns : List ℕ) (m : List ℤ) where
  abbrev ρ : List ℕ
  ρ = abstract_memory ns m

  -- a name's set has the sign of each of its cells
  pub cell_sign : (x j : ℕ) → x < length ns → j < cells_of (get_or ns x 0) → T (has (get_or ρ x 0) (sign_of (cell_value m (first_cell ns x + j))))
  unfolding abstract_memory name_values
  cell_sign x j hx hj =
      rw (get_or_tabulate (length ns) (λ i. signs_of (name_values ns m i)) x 0 hx)
      (has_sign_of (cells_of (get_or ns x 0)) (λ j. cell_value m (first_cell ns x + j)) j hj)

  -- the sign of an expression's value is in its set: of an element and an operator, where it is so of their parts
  abbrev ValueSound : Arith → Type 0
  ValueSound a = (z : ℤ) → value ns m a ≡ Ok z → T (has (signs_in ρ a) (sign_of z))

  element_sound : (k x : ℕ) (i : Arith) → T (is_array ns x) → ValueSound i → ValueSound (element k x i)
  unfolding value signs_in value_at place_of
  element_sound k x i t index z e = in_array (value ns m i) refl e
    where
      inside : (j : ℕ) → value ns m i ≡ Ok (pos j) → (b : Bool) → ltb j (get_or ns x 0) ≡ b
          → value_at m (cond b (at (first_cell ns x + j)) (nowhere (fault IndexTooLarge))) ≡ Ok z
          → T (has (cond (may_index (signs_in ρ i)) (get_or ρ x 0) 0) (sign_of z))
      inside j v true b e =
          let there = array_there ns x t in
          let h = ltb-true j (get_or ns x 0) b in
          let p : z ≡ cell_value m (first_cell ns x + j) = cc in
          rw (p, is_true (may_index (signs_in ρ i)) (may_index_lem (signs_in ρ i) j (index (pos j) v)))
          (cell_sign x j there.0 (omega (arith, there.1)))
      inside j v false b e = no_number (fault IndexTooLarge) z e

      in_array : (v : Evaluation) → value ns m i ≡ v → value_at m (place_of ns x v) ≡ Ok z → T (has (cond (may_index (signs_in ρ i)) (get_or ρ x 0) 0) (sign_of z))
      in_array (Ok (pos j)) v e = inside j v (ltb j (get_or ns x 0)) refl e
      in_array (Ok (negsuc j)) v e = no_number (fault IndexNegative) z e
      in_array (Err f) v e = no_number f z e

  operator_sound : (k : ℕ) (o : Operator) (a b : Arith) → ValueSound a → ValueSound b → ValueSound (operator k o a b)
  unfolding value signs_in operated combine
  operator_sound k o a b left right z e = sides (value ns m a) (value ns m b) refl refl e
    where
      exactly : (l r : ℤ) → value ns m a ≡ Ok l → value ns m b ≡ Ok r → (v : Result ℤ Reason) → apply o l r ≡ v → operated v ≡ Ok z → T (has (operate o (signs_in ρ a) (signs_in ρ b)) (sign_of z))
      exactly l r p q (Ok w) v e =
          let same : z ≡ w = cc in
          operate_sound o l r z (signs_in ρ a) (signs_in ρ b) (left l p) (right r q) (rw same v)
      exactly l r p q (Err s) v e = no_number (fault s) z e

      sides : (u v : Evaluation) → value ns m a ≡ u → value ns m b ≡ v → combine o u v ≡ Ok z → T (has (operate o (signs_in ρ a) (signs_in ρ b)) (sign_of z))
      sides (Ok l) (Ok r) p q e = exactly l r p q (apply o l r) refl e
      sides (Ok l) (Err f) p q e = no_number f z e
      sides (Err f) v p q e = no_number f z e

  pub value_sound : (a : Arith) → T (arith_named ns a) → (z : ℤ) → value ns m a ≡ Ok z → T (has (signs_in ρ a) (sign_of z))
  unfolding arith_named value signs_in
  value_sound (number k w) t z e = let p : z ≡ w = cc in rw p (has_single (sign_of w))
  value_sound (variable k x) t z e =
      let there = variable_there ns x t in
      let p : z ≡ cell_value m (first_cell ns x) = cc in
      let q : first_cell ns x ≡ first_cell ns x + 0 = omega arith in
      rw (p ∙ ap (cell_value m) q) (cell_sign x 0 there.0 (omega (arith, there.1)))
  value_sound (element k x i) t z e =
      let named = and_yes (is_array ns x) (arith_named ns i) t in
      element_sound k x i named.0 (value_sound i named.1) z e
  value_sound (operator k o a b) t z e =
      let named = and_yes (arith_named ns a) (arith_named ns b) t in
      operator_sound k o a b (value_sound a named.0) (value_sound b named.1) z e

  -- the truth of a condition is among its answers: of the operators, where it is so of their sides
  abbrev TruthSound : Boolean → Type 0
  TruthSound b = (v : Bool) → truth_in ns m b ≡ Ok v → T (among v (truths_in ρ b))

  comparison_sound : (k : ℕ) (c : Comparison) (a b : Arith) → ValueSound a → ValueSound b → TruthSound (comparison k c a b)
  unfolding truth_in truths_in compare_values
  comparison_sound k c a b left right v e = sides (value ns m a) (value ns m b) refl refl e
    where
      sides : (x y : Evaluation) → value ns m a ≡ x → value ns m b ≡ y → compare_values c x y ≡ Ok v → T (among v (compare_sets c (signs_in ρ a) (signs_in ρ b)))
      sides (Ok l) (Ok r) p q e =
          let same : v ≡ compares c l r = cc in
          rw same (compare_sets_sound c l r (signs_in ρ a) (signs_in ρ b) (left l p) (right r q))
      sides (Ok l) (Err f) p q e = not_known f v e
      sides (Err f) y p q e = not_known f v e

  conjunction_sound : (k : ℕ) (a b : Boolean) → TruthSound a → TruthSound b → TruthSound (conjunction k a b)
  unfolding truth_in truths_in conjoin
  conjunction_sound k a b left right v e = sides (truth_in ns m a) (truth_in ns m b) refl refl e
    where
      sides : (x y : Truth) → truth_in ns m a ≡ x → truth_in ns m b ≡ y → conjoin x y ≡ Ok v → T (among v (conjoined (truths_in ρ a) (truths_in ρ b)))
      sides (Ok l) (Ok r) p q e =
          let same : v ≡ (l && r) = cc in
          rw same (conjoined_entry (truths_in ρ a) (truths_in ρ b) l r (left l p) (right r q))
      sides (Ok l) (Err f) p q e = not_known f v e
      sides (Err f) y p q e = not_known f v e

  short_circuit_sound : (k : ℕ) (a b : Boolean) → TruthSound a → TruthSound b → TruthSound (short_circuit k a b)
  unfolding truth_in truths_in and_then
  short_circuit_sound k a b left right v e = by (truth_in ns m a) refl e
    where
      by : (x : Truth) → truth_in ns m a ≡ x → and_then x (truth_in ns m b) ≡ Ok v → T (among v (andAnswers (truths_in ρ a) (truths_in ρ b)))
      by (Ok true) p e = and_then_entry (truths_in ρ a) (truths_in ρ b) true v (left true p) (λ u. right v e)
      by (Ok false) p e =
          let same : v ≡ false = cc in
          rw same (and_then_entry (truths_in ρ a) (truths_in ρ b) false false (left false p) (λ u. absurd u))
      by (Err f) p e = not_known f v e

  negation_sound : (k : ℕ) (a : Boolean) → TruthSound a → TruthSound (negation k a)
  unfolding truth_in truths_in negate
  negation_sound k a inner v e = by (truth_in ns m a) refl e
    where
      by : (x : Truth) → truth_in ns m a ≡ x → negate x ≡ Ok v → T (among v (negated (truths_in ρ a)))
      by (Ok l) p e =
          let same : v ≡ not l = cc in
          rw (same, among_negated (not l) (truths_in ρ a), not_not l) (inner l p)
      by (Err f) p e = not_known f v e

  pub truth_sound : (b : Boolean) → T (boolean_named ns b) → (v : Bool) → truth_in ns m b ≡ Ok v → T (among v (truths_in ρ b))
  unfolding boolean_named truth_in truths_in
  truth_sound (truth k) t v e = let p : v ≡ true = cc in rw p among_certain
  truth_sound (comparison k c a b) t v e =
      let named = and_yes (arith_named ns a) (arith_named ns b) t in
      comparison_sound k c a b (value_sound a named.0) (value_sound b named.1) v e
  truth_sound (conjunction k a b) t v e =
      let named = and_yes (boolean_named ns a) (boolean_named ns b) t in
      conjunction_sound k a b (truth_sound a named.0) (truth_sound b named.1) v e
  truth_sound (short_circuit k a b) t v e =
      let named = and_yes (boolean_named ns a) (boolean_named ns b) t in
      short_circuit_sound k a b (truth_sound a named.0) (truth_sound b named.1) v e
  truth_sound (negation k a) t v e = negation_sound k a (truth_sound a t) v e
