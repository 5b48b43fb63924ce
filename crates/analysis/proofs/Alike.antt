-- What the analysis says of an action depends on an abstract memory through its names' sets alone; and a number that stands for the results.
use Rattle.std.proofs.Common.{◌≡◌, ℕ, ◌+◌, ◌*◌, ◌/◌, ◌%◌, ◌<◌, ◌≤◌, Bool, true, false, cond, min, ltb, List, [], ◌∷◌, map, length, get_or, set, sym, refl, ap, ◌∙◌, arith, ltb-false, ltb-true}
use mathlib.Core.List.{map_congr_left}
use lib.Seq.{set_out}
use Rattle.program.specs.Syntax.{Arith, number, variable, element, operator, Boolean, truth, comparison, conjunction, short_circuit, negation}
use Rattle.program.specs.Meaning.{Meaning, nothing, assigns, stores, condition}
use Rattle.analysis.specs.Parts.Changing.{Alike, packed, digits, sets_of, name_for, ResultsIn}
use Rattle.analysis.specs.Index.{arith_indexes, boolean_indexes, index_sets, any_negative, may_be_negative}
use Rattle.analysis.specs.Results.{assigned_sets, stored_sets, results}
use Rattle.analysis.specs.Signs.{may_index, signs_in, truths_in}
use Rattle.analysis.proofs.Digits.{room, Few, assigned_few, stored_few}

module _ (ρ σ : List ℕ) (alike : Alike ρ σ) where
  pub set_alike : (x : ℕ) → get_or ρ x 0 ≡ get_or σ x 0
  unfolding Alike
  set_alike x = alike x

  pub signs_alike : (a : Arith) → signs_in ρ a ≡ signs_in σ a
  unfolding signs_in
  signs_alike (number k z) = refl
  signs_alike (variable k x) = set_alike x
  signs_alike (element k x i) = rw (signs_alike i, set_alike x)
  signs_alike (operator k o a b) = rw (signs_alike a, signs_alike b)

  pub truths_alike : (b : Boolean) → truths_in ρ b ≡ truths_in σ b
  unfolding truths_in
  truths_alike (truth k) = refl
  truths_alike (comparison k c a b) = rw (signs_alike a, signs_alike b)
  truths_alike (conjunction k a b) = rw (truths_alike a, truths_alike b)
  truths_alike (short_circuit k a b) = rw (truths_alike a, truths_alike b)
  truths_alike (negation k a) = rw (truths_alike a)

  pub arith_indexes_alike : (a : Arith) → arith_indexes ρ a ≡ arith_indexes σ a
  unfolding arith_indexes
  arith_indexes_alike (number k z) = refl
  arith_indexes_alike (variable k x) = refl
  arith_indexes_alike (element k x i) = rw (signs_alike i, arith_indexes_alike i)
  arith_indexes_alike (operator k o a b) = rw (arith_indexes_alike a, arith_indexes_alike b)

  pub boolean_indexes_alike : (b : Boolean) → boolean_indexes ρ b ≡ boolean_indexes σ b
  unfolding boolean_indexes
  boolean_indexes_alike (truth k) = refl
  boolean_indexes_alike (comparison k c a b) = rw (arith_indexes_alike a, arith_indexes_alike b)
  boolean_indexes_alike (conjunction k a b) = rw (boolean_indexes_alike a, boolean_indexes_alike b)
  boolean_indexes_alike (short_circuit k a b) = rw (boolean_indexes_alike a, boolean_indexes_alike b)
  boolean_indexes_alike (negation k a) = boolean_indexes_alike a

  pub index_sets_alike : (x : Meaning) → index_sets ρ x ≡ index_sets σ x
  unfolding index_sets
  index_sets_alike nothing = refl
  index_sets_alike (assigns x a) = arith_indexes_alike a
  index_sets_alike (stores x i a) = rw (signs_alike i, arith_indexes_alike i, arith_indexes_alike a)
  index_sets_alike (condition b) = boolean_indexes_alike b

  pub negative_alike : (x : Meaning) → may_be_negative ρ x ≡ may_be_negative σ x
  unfolding may_be_negative
  negative_alike x = ap any_negative (index_sets_alike x)

-- a name that is past the last changes nothing, and neither does 32, which stands for it
name_for_lem : (ρ : List ℕ) → length ρ ≤ 32 → (x s : ℕ) → set ρ (name_for x) s ≡ set ρ x s
unfolding name_for
name_for_lem ρ few x s = by (ltb x 32) refl
  where
    by : (b : Bool) → ltb x 32 ≡ b → set ρ (min x 32) s ≡ set ρ x s
    by true e = ap (λ (i : ℕ). set ρ i s) (omega (arith, ltb-true x 32 e))
    by false e = set_out ρ (min x 32) s (omega (arith, few, ltb-false x 32 e)) ∙ sym (set_out ρ x s (omega (arith, few, ltb-false x 32 e)))

-- a number with the sets of a name
module _ (x : ℕ) (sets : List ℕ) (f : Few 12 sets) where
  name_low : name_for x < 64
  unfolding name_for
  name_low = omega arith

  number_few : (64 * packed sets 0 + name_for x) / 64 < 68719476736
  unfolding room
  number_few = omega (arith, f.inside, name_low)

  number_gives : (ρ : List ℕ) → length ρ ≤ 32 → map (set ρ x) sets ≡ map (set ρ ((64 * packed sets 0 + name_for x) % 64)) (sets_of ((64 * packed sets 0 + name_for x) / 64))
  unfolding sets_of
  number_gives ρ few =
      let low : (64 * packed sets 0 + name_for x) % 64 ≡ name_for x = omega (arith, name_low) in
      let high : (64 * packed sets 0 + name_for x) / 64 ≡ packed sets 0 = omega (arith, name_low) in
      rw (low, high, f.back) (map_congr_left {l = sets} (λ s m. sym (name_for_lem ρ few x s)))

-- the abstract memory as it is: name 32 with one set, or with none
pub as_it_is : (b : Bool) (ρ : List ℕ) → length ρ ≤ 32 → cond b (ρ ∷ []) [] ≡ map (set ρ (cond b 96 32 % 64)) (sets_of (cond b 96 32 / 64))
unfolding sets_of digits
as_it_is true ρ few = ap (λ (σ : List ℕ). σ ∷ []) (sym (set_out ρ 32 1 few))
as_it_is false ρ few = refl

pub as_few : (b : Bool) → cond b 96 32 / 64 < 68719476736
as_few true = omega arith
as_few false = omega arith

-- the results of an action, from a name and its new sets
module _ {lent : List ℕ} {r : ℕ} where
  pub no_results : r ≡ cond true 96 32 → ResultsIn lent nothing r
  unfolding results
  no_results e = rw e (record { few = as_few true; gives = λ ρ few alike. as_it_is true ρ few })

  pub condition_results : (b : Boolean) → r ≡ cond (truths_in lent b).holds 96 32 → ResultsIn lent (condition b) r
  unfolding results
  condition_results b e =
      rw e
      (record { few = as_few (truths_in lent b).holds; gives = λ ρ few alike. rw (truths_alike ρ lent alike b) (as_it_is (truths_in lent b).holds ρ few) })

  pub assign_results : (x : ℕ) (a : Arith) → r ≡ 64 * packed (assigned_sets (signs_in lent a)) 0 + name_for x → ResultsIn lent (assigns x a) r
  unfolding results
  assign_results x a e =
      let f = assigned_few (signs_in lent a) in
      rw e (record { few = number_few x _ f; gives = λ ρ few alike. rw (signs_alike ρ lent alike a) (number_gives x _ f ρ few) })

  -- a store whose index can be in the array, and one whose index cannot
  module _ (x : ℕ) (i a : Arith) where
    pub store_results : may_index (signs_in lent i) ≡ true → r ≡ 64 * packed (stored_sets (get_or lent x 0) (signs_in lent a)) 0 + name_for x → ResultsIn lent (stores x i a) r
    unfolding results
    store_results may e =
        let f = stored_few (get_or lent x 0) (signs_in lent a) in
        rw e
        (record {
          few = number_few x _ f;
          gives = λ ρ few alike. rw (signs_alike ρ lent alike i, may, signs_alike ρ lent alike a, set_alike ρ lent alike x) (number_gives x _ f ρ few);
        })

    pub no_store : may_index (signs_in lent i) ≡ false → r ≡ cond false 96 32 → ResultsIn lent (stores x i a) r
    unfolding results
    no_store may e = rw e (record { few = as_few false; gives = λ ρ few alike. rw (signs_alike ρ lent alike i, may) (as_it_is false ρ few) })
