-- Where an expression, a condition or an action is undefined for reason 34, one of its index sets has minus.
use Rattle.std.specs.Prelude.{Err, Ok, Result}
use Rattle.std.proofs.Common.{◌≡◌, ℕ, ◌+◌, Bool, true, false, cond, not, ◌&&◌, ◌||◌, T, eqb, ltb, List, ◌∷◌, ◌++◌, get_or, ℤ, pos, negsuc, ◌+ℤ◌, ◌-ℤ◌, ◌*ℤ◌, refl, ap, ◌∙◌, arith}
use lib.Signed.{quot_z}
use mir.Facts.{and_yes}
use Rattle.signs.specs.Lists.{any_of}
use Rattle.signs.specs.Number.{reason_number, in_range, exact, equal, power, quotient, raised, apply, compares}
use Rattle.signs.specs.Sign.{sign_of, has}
use Rattle.signs.specs.declared.Comparison.{Comparison}
use Rattle.signs.specs.declared.Operator.{Operator}
use Rattle.signs.specs.declared.Operator.TheVariants.{Add, Sub, Mul, Div, Pow}
use Rattle.signs.specs.declared.Reason.{Reason}
use Rattle.signs.specs.declared.Reason.TheVariants.{DivisorZero, ExponentNegative, IndexTooLarge, OutOfRange}
use Rattle.signs.specs.declared.Sign.TheVariants.{Minus}
use Rattle.signs.proofs.Lists.{or_left, or_right, any_of_append}
use Rattle.program.specs.File.{first_cell, is_array}
use Rattle.program.specs.Parts.Sorted.{arith_named, boolean_named}
use Rattle.program.specs.Syntax.{Arith, number, variable, element, operator, Boolean, truth, comparison, conjunction, short_circuit, negation}
use Rattle.semantics.specs.Expression.{cell_value, fault, fault_number, Place, at, nowhere, place_of, value_at, operated, combine, value, compare_values, conjoin, and_then, negate, truth_in, Evaluation, Truth}
use Rattle.semantics.specs.declared.Fault.{Fault}
use Rattle.analysis.specs.Abstraction.{abstract_memory}
use Rattle.analysis.specs.Index.{arith_indexes, boolean_indexes, any_negative}
use Rattle.analysis.specs.Signs.{signs_in}
use Rattle.analysis.specs.Soundness.{is_negative_index}
use Rattle.analysis.proofs.Values.{value_sound}
use Rattle.program.proofs.Laws.{arith_told, boolean_told, command_told, arith_whole, boolean_whole, command_whole}
use Rattle.semantics.proofs.Keys.{left_at_once}

-- some set of a list has minus: the first or one of the others; of two lists, one after the other
pub any_first : (set : ℕ) (sets : List ℕ) → any_negative (set ∷ sets) ≡ (has set Minus || any_negative sets)
unfolding any_negative any_of
any_first set sets = refl

pub any_append : (xs ys : List ℕ) → any_negative (xs ++ ys) ≡ (any_negative xs || any_negative ys)
unfolding any_negative
any_append xs ys = any_of_append (λ set. has set Minus) xs ys

abbrev pub SomeMinus : List ℕ → Type 0
SomeMinus sets = T (any_negative sets)

pub first_minus : (xs ys : List ℕ) → SomeMinus xs → SomeMinus (xs ++ ys)
first_minus xs ys t = rw (any_append xs ys) (or_left (any_negative xs) (any_negative ys) t)

pub second_minus : (xs ys : List ℕ) → SomeMinus ys → SomeMinus (xs ++ ys)
second_minus xs ys t = rw (any_append xs ys) (or_right (any_negative xs) (any_negative ys) t)

-- where an evaluation is a number, it is not undefined; where a truth is known, neither
pub no_fault {ℓ} : {A : Type ℓ} (z : ℤ) (f : Fault) → Ok z ≡ Err f → A
no_fault z f e = absurd (let z : ◌≡◌ {A = ℕ} 0 1 = cc in omega arith)

pub no_doubt {ℓ} : {A : Type ℓ} (v : Bool) (f : Fault) → Ok v ≡ Err f → A
no_doubt v f e = absurd (let z : ◌≡◌ {A = ℕ} 0 1 = cc in omega arith)

-- arithmetic is never undefined for 34
exact_never : (z : ℤ) (s : Reason) → exact z ≡ Err s → T (eqb (reason_number s) 34) → ⊥
unfolding exact reason_number
exact_never z s e u = by (in_range z) e
  where
    by : (b : Bool) → cond b (Ok z) (Err OutOfRange) ≡ Err s → ⊥
    by true e = let z : ◌≡◌ {A = ℕ} 0 1 = cc in omega arith
    by false e = let p : s ≡ OutOfRange = cc in (rw p at u)

quotient_never : (a b : ℤ) (s : Reason) → quotient a b ≡ Err s → T (eqb (reason_number s) 34) → ⊥
unfolding quotient reason_number
quotient_never a b s e u = by (equal b (pos 0)) e
  where
    by : (c : Bool) → cond c (Err DivisorZero) (exact (quot_z a b)) ≡ Err s → ⊥
    by true e = let p : s ≡ DivisorZero = cc in (rw p at u)
    by false e = exact_never (quot_z a b) s e u

raised_never : (a b : ℤ) (s : Reason) → raised a b ≡ Err s → T (eqb (reason_number s) 34) → ⊥
unfolding raised reason_number
raised_never a (pos n) s e u = exact_never (power a n) s e u
raised_never a (negsuc n) s e u = let p : s ≡ ExponentNegative = cc in (rw p at u)

apply_never : (o : Operator) (a b : ℤ) (s : Reason) → apply o a b ≡ Err s → T (eqb (reason_number s) 34) → ⊥
unfolding apply
apply_never Add a b s e u = exact_never (a +ℤ b) s e u
apply_never Sub a b s e u = exact_never (a -ℤ b) s e u
apply_never Mul a b s e u = exact_never (a *ℤ b) s e u
apply_never Div a b s e u = quotient_never a b s e u
apply_never Pow a b s e u = raised_never a b s e u

module _ (ns : List ℕ) (m : List ℤ) where
  abbrev ρ : List ℕ
  ρ = abstract_memory ns m

  -- an index is evaluated: where that is undefined for 34 its own sets have minus, and where it is below zero its set has
  abbrev ValueMinus : Arith → Type 0
  ValueMinus a = (f : Fault) → value ns m a ≡ Err f → T (is_negative_index f) → SomeMinus (arith_indexes ρ a)

  pub place_minus : (x : ℕ) (i : Arith) → T (arith_named ns i) → ValueMinus i → (f : Fault) → place_of ns x (value ns m i) ≡ nowhere f → T (is_negative_index f) → SomeMinus (signs_in ρ i ∷ arith_indexes ρ i)
  unfolding place_of any_of any_negative is_negative_index fault_number reason_number sign_of
  place_minus x i t below f e u = by (value ns m i) refl e
    where
      fits : (j : ℕ) (b : Bool) → cond b (at (first_cell ns x + j)) (nowhere (fault IndexTooLarge)) ≡ nowhere f → SomeMinus (signs_in ρ i ∷ arith_indexes ρ i)
      fits j true e = absurd (let z : ◌≡◌ {A = ℕ} 0 1 = cc in omega arith)
      fits j false e = let p : f ≡ fault IndexTooLarge = cc in absurd (rw p at u)

      by : (v : Evaluation) → value ns m i ≡ v → place_of ns x v ≡ nowhere f → SomeMinus (signs_in ρ i ∷ arith_indexes ρ i)
      by (Ok (pos j)) v e = fits j (ltb j (get_or ns x 0)) e
      by (Ok (negsuc j)) v e = or_left (has (signs_in ρ i) Minus) (any_negative (arith_indexes ρ i)) (value_sound ns m i t (negsuc j) v)
      by (Err g) v e =
          let p : g ≡ f = cc in
          or_right (has (signs_in ρ i) Minus) (any_negative (arith_indexes ρ i)) (below f (v ∙ ap Err p) u)

  element_minus : (k x : ℕ) (i : Arith) → T (arith_named ns i) → ValueMinus i → ValueMinus (element k x i)
  unfolding value value_at arith_indexes
  element_minus k x i t below f e u = by (place_of ns x (value ns m i)) refl e
    where
      by : (p : Place) → place_of ns x (value ns m i) ≡ p → value_at m p ≡ Err f → SomeMinus (signs_in ρ i ∷ arith_indexes ρ i)
      by (at c) p e = no_fault (cell_value m c) f e
      by (nowhere g) p e = let q : g ≡ f = cc in place_minus x i t below f (p ∙ ap nowhere q) u

  operator_minus : (k : ℕ) (o : Operator) (a b : Arith) → ValueMinus a → ValueMinus b → ValueMinus (operator k o a b)
  unfolding value combine operated arith_indexes is_negative_index fault_number
  operator_minus k o a b left right f e u = sides (value ns m a) (value ns m b) refl refl e
    where
      exactly : (l r : ℤ) (v : Result ℤ Reason) → apply o l r ≡ v → operated v ≡ Err f → SomeMinus (arith_indexes ρ a ++ arith_indexes ρ b)
      exactly l r (Ok w) v e = no_fault w f e
      exactly l r (Err s) v e = let q : f ≡ fault s = cc in absurd (apply_never o l r s v (rw q at u))

      sides : (x y : Evaluation) → value ns m a ≡ x → value ns m b ≡ y → combine o x y ≡ Err f → SomeMinus (arith_indexes ρ a ++ arith_indexes ρ b)
      sides (Ok l) (Ok r) p q e = exactly l r (apply o l r) refl e
      sides (Ok l) (Err g) p q e = second_minus (arith_indexes ρ a) (arith_indexes ρ b) (right f (q ∙ e) u)
      sides (Err g) y p q e = first_minus (arith_indexes ρ a) (arith_indexes ρ b) (left f (p ∙ e) u)

  pub value_minus : (a : Arith) → T (arith_named ns a) → (f : Fault) → value ns m a ≡ Err f → T (is_negative_index f) → SomeMinus (arith_indexes ρ a)
  unfolding arith_named value
  value_minus (number k w) t f e u = no_fault w f e
  value_minus (variable k x) t f e u = no_fault (cell_value m (first_cell ns x)) f e
  value_minus (element k x i) t f e u =
      let named = and_yes (is_array ns x) (arith_named ns i) t in
      element_minus k x i named.1 (value_minus i named.1) f e u
  value_minus (operator k o a b) t f e u =
      let named = and_yes (arith_named ns a) (arith_named ns b) t in
      operator_minus k o a b (value_minus a named.0) (value_minus b named.1) f e u

  -- the same of a condition
  abbrev TruthMinus : Boolean → Type 0
  TruthMinus b = (f : Fault) → truth_in ns m b ≡ Err f → T (is_negative_index f) → SomeMinus (boolean_indexes ρ b)

  comparison_minus : (k : ℕ) (c : Comparison) (a b : Arith) → ValueMinus a → ValueMinus b → TruthMinus (comparison k c a b)
  unfolding truth_in compare_values boolean_indexes
  comparison_minus k c a b left right f e u = sides (value ns m a) (value ns m b) refl refl e
    where
      sides : (x y : Evaluation) → value ns m a ≡ x → value ns m b ≡ y → compare_values c x y ≡ Err f → SomeMinus (arith_indexes ρ a ++ arith_indexes ρ b)
      sides (Ok l) (Ok r) p q e = no_doubt (compares c l r) f e
      sides (Ok l) (Err g) p q e =
          let same : g ≡ f = cc in second_minus (arith_indexes ρ a) (arith_indexes ρ b) (right f (q ∙ ap Err same) u)
      sides (Err g) y p q e =
          let same : g ≡ f = cc in first_minus (arith_indexes ρ a) (arith_indexes ρ b) (left f (p ∙ ap Err same) u)

  conjunction_minus : (k : ℕ) (a b : Boolean) → TruthMinus a → TruthMinus b → TruthMinus (conjunction k a b)
  unfolding truth_in conjoin boolean_indexes
  conjunction_minus k a b left right f e u = sides (truth_in ns m a) (truth_in ns m b) refl refl e
    where
      sides : (x y : Truth) → truth_in ns m a ≡ x → truth_in ns m b ≡ y → conjoin x y ≡ Err f → SomeMinus (boolean_indexes ρ a ++ boolean_indexes ρ b)
      sides (Ok l) (Ok r) p q e = no_doubt (l && r) f e
      sides (Ok l) (Err g) p q e = second_minus (boolean_indexes ρ a) (boolean_indexes ρ b) (right f (q ∙ e) u)
      sides (Err g) y p q e = first_minus (boolean_indexes ρ a) (boolean_indexes ρ b) (left f (p ∙ e) u)

  short_circuit_minus : (k : ℕ) (a b : Boolean) → TruthMinus a → TruthMinus b → TruthMinus (short_circuit k a b)
  unfolding truth_in and_then boolean_indexes
  short_circuit_minus k a b left right f e u = by (truth_in ns m a) refl e
    where
      by : (x : Truth) → truth_in ns m a ≡ x → and_then x (truth_in ns m b) ≡ Err f → SomeMinus (boolean_indexes ρ a ++ boolean_indexes ρ b)
      by (Ok true) p e = second_minus (boolean_indexes ρ a) (boolean_indexes ρ b) (right f e u)
      by (Ok false) p e = no_doubt false f e
      by (Err g) p e = first_minus (boolean_indexes ρ a) (boolean_indexes ρ b) (left f (p ∙ e) u)

  negation_minus : (k : ℕ) (a : Boolean) → TruthMinus a → TruthMinus (negation k a)
  unfolding truth_in negate boolean_indexes
  negation_minus k a inner f e u = by (truth_in ns m a) refl e
    where
      by : (x : Truth) → truth_in ns m a ≡ x → negate x ≡ Err f → SomeMinus (boolean_indexes ρ a)
      by (Ok l) p e = no_doubt (not l) f e
      by (Err g) p e = inner f (p ∙ e) u

  pub truth_minus : (b : Boolean) → T (boolean_named ns b) → (f : Fault) → truth_in ns m b ≡ Err f → T (is_negative_index f) → SomeMinus (boolean_indexes ρ b)
  unfolding boolean_named truth_in
  truth_minus (truth k) t f e u = no_doubt true f e
  truth_minus (comparison k c a b) t f e u =
      let named = and_yes (arith_named ns a) (arith_named ns b) t in
      comparison_minus k c a b (value_minus a named.0) (value_minus b named.1) f e u
  truth_minus (conjunction k a b) t f e u =
      let named = and_yes (boolean_named ns a) (boolean_named ns b) t in
      conjunction_minus k a b (truth_minus a named.0) (truth_minus b named.1) f e u
  truth_minus (short_circuit k a b) t f e u =
      let named = and_yes (boolean_named ns a) (boolean_named ns b) t in
      short_circuit_minus k a b (truth_minus a named.0) (truth_minus b named.1) f e u
  truth_minus (negation k a) t f e u = negation_minus k a (truth_minus a t) f e u

-- what an entry's tree is by how it was decoded, and what a list's parts have: by these the arms of the evaluator of indexes are answered
pub ruleset in_parts = (arith_told, boolean_told, command_told, arith_whole, boolean_whole, command_whole, left_at_once, any_first, any_append)
