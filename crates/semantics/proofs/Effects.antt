-- The effect of an action from the numbers that its expressions give, and performing it.
use mathlib.Core.Path.{◌≡◌, refl, sym, subst, ◌∙◌}
use mathlib.Core.Bool.{Bool, true, false, ◌&&◌, true≢false}
use mathlib.Core.List.{List}
use Prim.Native.Nat.{ℕ, ◌+◌, ◌<◌}
use native.Mathlib.Nat.{lt_of_lt_of_le}
use native.Mathlib.Omega.{arith}
use lib.IntN.{ℤ, pos, nat_abs}
use mir.Facts.{and_yes}
use Rattle.signs.specs.Number.{equal}
use Rattle.program.specs.File.{first_cell, is_variable, is_array}
use Rattle.program.specs.Meaning.{Meaning, nothing, assigns, stores, condition}
use Rattle.program.specs.Parts.Prepared.{size_in, cell_in}
use Rattle.program.specs.Parts.Sorted.{arith_named, meaning_named}
use Rattle.program.specs.Syntax.{Arith, Boolean}
use Rattle.semantics.specs.Action.{pass, store_to, effect, after, is_defined}
use Rattle.semantics.specs.Parts.Coding.{evaluated, decided, ValueIn, TruthIn, EffectIn, Follows, Performs, Indexed, IndexIn}
use Rattle.semantics.specs.Expression.{at, value}
use Rattle.semantics.specs.declared.Effect.{Effect}
use Rattle.semantics.specs.declared.Effect.TheVariants.{Undefined as Fails, Unchanged, Stored}
use Rattle.semantics.proofs.Coded.{is_fault, fault_in, fault_decided, truth_decided, one_decided, placed_fault, placed_at}
use Rattle.semantics.proofs.Named.{variable_there, array_there, place_inside}

module _ {code : List ℕ} {m : List ℤ} where
  pub no_effect : EffectIn code m nothing Unchanged
  unfolding effect
  no_effect = record { gives = λ ns loaded t. refl }

  pub assign_effect : (x : ℕ) {a : Arith} {v : ℤ} → ValueIn code m a v → EffectIn code m (assigns x a) (store_to (at (cell_in code x)) (evaluated v))
  unfolding meaning_named effect
  assign_effect x {a} right =
      record {
        gives = λ ns loaded t.
            let named = and_yes (is_variable ns x) (arith_named ns a) t in
            rw (loaded.coded.cell x (variable_there ns x named.0).0, ← right.gives ns loaded named.1);
      }

  pub test_effect : {b : Boolean} {v : ℤ} → TruthIn code m b v → EffectIn code m (condition b) (pass (decided v))
  unfolding meaning_named effect
  test_effect holds = record { gives = λ ns loaded t. rw (← holds.gives ns loaded t) }

  -- the index of a store, from the value of its tree
  pub store_index : (x : ℕ) {a : Arith} {v r : ℤ} {size : ℕ} → ValueIn code m a v → size ≡ size_in code x → size < 65536 → Indexed size v r → IndexIn code m x a r
  store_index x right e fits i =
      record {
        below = λ h. ((i.below h).0, omega (arith, (i.below h).1));
        place = λ ns loaded t u.
            rw (← right.gives ns loaded u) (i.place ns x (sym (loaded.coded.size x (array_there ns x t).0) ∙ sym e));
      }

  module _ (x : ℕ) {i : Arith} (a : Arith) {k : ℤ} (index : IndexIn code m x i k) where
    -- a fault of the index
    pub index_effect : is_fault k ≡ true → EffectIn code m (stores x i a) (Fails (fault_in k))
    unfolding meaning_named effect store_to
    index_effect h =
        record {
          gives = λ ns loaded t.
              let named = and_yes (is_array ns x) (arith_named ns i && arith_named ns a) t in
              let both = and_yes (arith_named ns i) (arith_named ns a) named.1 in
              rw (index.place ns loaded named.0 both.0, placed_fault ns x k h);
        }

    -- the cell of an element is one of 512, so it is found by a sum below 512
    pub store_effect : is_fault k ≡ false → {v : ℤ} → ValueIn code m a v → {c : ℕ} → (cell_in code x + nat_abs k < 512 → c ≡ cell_in code x + nat_abs k)
        → EffectIn code m (stores x i a) (store_to (at c) (evaluated v))
    unfolding meaning_named effect
    store_effect h {v} right {c} sum =
        record {
          gives = λ ns loaded t.
              let named = and_yes (is_array ns x) (arith_named ns i && arith_named ns a) t in
              let both = and_yes (arith_named ns i) (arith_named ns a) named.1 in
              let place = index.place ns loaded named.0 both.0 ∙ placed_at ns x k h in
              let inside = lt_of_lt_of_le (place_inside ns x named.0 (value ns m i) (first_cell ns x + nat_abs k) place) loaded.coded.most in
              let cell = loaded.coded.cell x (array_there ns x named.0).0 in
              let there : c ≡ first_cell ns x + nat_abs k = sum (rw cell inside) ∙ rw cell in
              rw (place, there, ← right.gives ns loaded both.1);
        }

  -- performing an action whose effect is known
  pub performs : {x : Meaning} {e : Effect} {r : Bool} {m' : List ℤ} → EffectIn code m x e → Follows m e r m' → Performs code m x r m'
  performs {x} {e} {r} {m'} found f = record { gives = λ ns loaded t. subst (λ (y : Effect). Follows m y r m') (found.gives ns loaded t) f }

-- a condition that is not true is undefined
other_pass : (v : ℤ) → equal v (pos 1) ≡ false → is_defined (pass (decided v)) ≡ false
unfolding pass is_defined
other_pass v h = by (is_fault v) refl
  where
    by : (t : Bool) → is_fault v ≡ t → is_defined (pass (decided v)) ≡ false
    by true e = rw (fault_decided v e)
    by false e = rw (truth_decided v e, h)

pub undefined_after : (m : List ℤ) (x : Effect) → is_defined x ≡ false → m ≡ after m x
unfolding is_defined after
undefined_after m (Fails f) h = refl
undefined_after m Unchanged h = refl
undefined_after m (Stored c z) h = absurd (true≢false h)

-- so a condition is performed by asking whether it is true, and the memory stays
pub held : (m : List ℤ) (v : ℤ) {r : Bool} → r ≡ equal v (pos 1) → Follows m (pass (decided v)) r m
unfolding pass is_defined after
held m v told = rw told (by (equal v (pos 1)) refl)
  where
    by : (b : Bool) → equal v (pos 1) ≡ b → Follows m (pass (decided v)) b m
    by true e = rw (one_decided v e) record { defined = refl; memory = refl }
    by false e = let none = other_pass v e in record { defined = sym none; memory = undefined_after m (pass (decided v)) none }
