-- Where an action is undefined for reason 34, one of its index sets has minus.
use Rattle.std.specs.Prelude.{Err, Ok}
use Rattle.std.proofs.Common.{◌≡◌, ℕ, true, false, ◌&&◌, T, List, ◌∷◌, ◌++◌, ℤ, refl, ap, ◌∙◌, arith}
use mir.Facts.{and_yes}
use Rattle.signs.specs.Number.{reason_number}
use Rattle.signs.specs.declared.Reason.TheVariants.{ConditionFalse}
use Rattle.program.specs.File.{first_cell, is_variable, is_array}
use Rattle.program.specs.Parts.Sorted.{meaning_named, arith_named, boolean_named}
use Rattle.program.specs.Syntax.{Arith, Boolean}
use Rattle.program.specs.Meaning.{Meaning, nothing, assigns, stores, condition}
use Rattle.semantics.specs.Action.{pass, store_to, effect}
use Rattle.semantics.specs.Expression.{fault, fault_number, Place, at, nowhere, place_of, value, truth_in, Evaluation, Truth}
use Rattle.semantics.specs.declared.Effect.TheVariants.{Undefined as Fails, Unchanged, Stored}
use Rattle.semantics.specs.declared.Fault.{Fault}
use Rattle.analysis.specs.Abstraction.{abstract_memory}
use Rattle.analysis.specs.Index.{arith_indexes, boolean_indexes, index_sets, may_be_negative}
use Rattle.analysis.specs.Signs.{signs_in}
use Rattle.analysis.specs.Soundness.{is_negative_index}
use Rattle.analysis.proofs.Negative.{SomeMinus, first_minus, second_minus, place_minus, value_minus, truth_minus}

-- an effect that is defined is no fault
pub unchanged_defined {ℓ} : {A : Type ℓ} (f : Fault) → Unchanged ≡ Fails f → A
unchanged_defined f e = absurd (let z : ◌≡◌ {A = ℕ} 0 1 = cc in omega arith)

pub stored_defined {ℓ} : {A : Type ℓ} (c : ℕ) (z : ℤ) (f : Fault) → Stored c z ≡ Fails f → A
stored_defined c z f e = absurd (let z : ◌≡◌ {A = ℕ} 0 1 = cc in omega arith)

module _ (ns : List ℕ) (m : List ℤ) (f : Fault) (negative : T (is_negative_index f)) where
  abbrev ρ : List ℕ
  ρ = abstract_memory ns m

  assigns_minus : (x : ℕ) (a : Arith) → T (arith_named ns a) → store_to (at (first_cell ns x)) (value ns m a) ≡ Fails f → SomeMinus (arith_indexes ρ a)
  unfolding store_to
  assigns_minus x a t e = by (value ns m a) refl e
    where
      by : (v : Evaluation) → value ns m a ≡ v → store_to (at (first_cell ns x)) v ≡ Fails f → SomeMinus (arith_indexes ρ a)
      by (Ok z) p e = stored_defined (first_cell ns x) z f e
      by (Err g) p e = let q : g ≡ f = cc in value_minus ns m a t f (p ∙ ap Err q) negative

  stores_minus : (x : ℕ) (i a : Arith) → T (arith_named ns i) → T (arith_named ns a)
      → store_to (place_of ns x (value ns m i)) (value ns m a) ≡ Fails f → SomeMinus (signs_in ρ i ∷ (arith_indexes ρ i ++ arith_indexes ρ a))
  unfolding store_to
  stores_minus x i a t u e = by (place_of ns x (value ns m i)) (value ns m a) refl refl e
    where
      by : (p : Place) (v : Evaluation) → place_of ns x (value ns m i) ≡ p → value ns m a ≡ v → store_to p v ≡ Fails f → SomeMinus (signs_in ρ i ∷ (arith_indexes ρ i ++ arith_indexes ρ a))
      by (at c) (Ok z) p q e = stored_defined c z f e
      by (at c) (Err g) p q e =
          let same : g ≡ f = cc in
          second_minus (signs_in ρ i ∷ arith_indexes ρ i) (arith_indexes ρ a) (value_minus ns m a u f (q ∙ ap Err same) negative)
      by (nowhere g) v p q e =
          let same : g ≡ f = cc in
          first_minus (signs_in ρ i ∷ arith_indexes ρ i) (arith_indexes ρ a)
          (place_minus ns m x i t (λ h r s. value_minus ns m i t h r s) f (p ∙ ap nowhere same) negative)

  condition_minus : (b : Boolean) → T (boolean_named ns b) → pass (truth_in ns m b) ≡ Fails f → SomeMinus (boolean_indexes ρ b)
  unfolding pass is_negative_index fault_number reason_number
  condition_minus b t e = by (truth_in ns m b) refl e
    where
      by : (v : Truth) → truth_in ns m b ≡ v → pass v ≡ Fails f → SomeMinus (boolean_indexes ρ b)
      by (Ok true) p e = unchanged_defined f e
      by (Ok false) p e = let q : f ≡ fault ConditionFalse = cc in absurd (rw q at negative)
      by (Err g) p e = let q : g ≡ f = cc in truth_minus ns m b t f (p ∙ ap Err q) negative

  -- an action that is undefined for reason 34
  pub effect_minus : (x : Meaning) → T (meaning_named ns x) → effect ns m x ≡ Fails f → T (may_be_negative ρ x)
  unfolding meaning_named effect may_be_negative index_sets
  effect_minus nothing t e = unchanged_defined f e
  effect_minus (assigns x a) t e = assigns_minus x a (and_yes (is_variable ns x) (arith_named ns a) t).1 e
  effect_minus (stores x i a) t e =
      let named = and_yes (arith_named ns i) (arith_named ns a) (and_yes (is_array ns x) (arith_named ns i && arith_named ns a) t).1 in
      stores_minus x i a named.0 named.1 e
  effect_minus (condition b) t e = condition_minus b t e
