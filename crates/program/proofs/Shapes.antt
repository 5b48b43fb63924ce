-- Kinds of one shape, and kinds past the last.
use mathlib.Core.Path.{◌≡◌, refl, sym}
use Prim.Native.Nat.{ℕ, zero, suc, ◌≤◌}
use native.Mathlib.Omega.{arith}
use lib.ListN.{get_or-eq_default}
use Rattle.program.specs.Kind.{Unused, To, Unknown, with, kinds, shape}
use Rattle.program.specs.declared.Sort.TheVariants.{Expression, Condition, Guarded}
use Rattle.program.specs.declared.Table.TheVariants.{Arithmetic, Boolean, Commands}
use Rattle.program.proofs.Induction.{from_eight}

pub operators : (k : ℕ) → 3 ≤ k → k ≤ 7 → with (To Expression) (To Expression) Unused ≡ shape Arithmetic k
unfolding shape kinds
operators zero h l = absurd (omega arith)
operators (suc zero) h l = absurd (omega arith)
operators (suc (suc zero)) h l = absurd (omega arith)
operators (suc (suc (suc zero))) h l = refl
operators (suc (suc (suc (suc zero)))) h l = refl
operators (suc (suc (suc (suc (suc zero))))) h l = refl
operators (suc (suc (suc (suc (suc (suc zero)))))) h l = refl
operators (suc (suc (suc (suc (suc (suc (suc zero))))))) h l = refl
operators (suc (suc (suc (suc (suc (suc (suc (suc k)))))))) h l = absurd (omega arith)

pub comparisons : (k : ℕ) → 1 ≤ k → k ≤ 3 → with (To Expression) (To Expression) Unused ≡ shape Boolean k
unfolding shape kinds
comparisons zero h l = absurd (omega arith)
comparisons (suc zero) h l = refl
comparisons (suc (suc zero)) h l = refl
comparisons (suc (suc (suc zero))) h l = refl
comparisons (suc (suc (suc (suc k)))) h l = absurd (omega arith)

four_or_five {ℓ} : (P : ℕ → Type ℓ) → P 4 → P 5 → (k : ℕ) → 4 ≤ k → k ≤ 5 → P k
four_or_five P a b zero h l = absurd (omega arith)
four_or_five P a b (suc zero) h l = absurd (omega arith)
four_or_five P a b (suc (suc zero)) h l = absurd (omega arith)
four_or_five P a b (suc (suc (suc zero))) h l = absurd (omega arith)
four_or_five P a b (suc (suc (suc (suc zero)))) h l = a
four_or_five P a b (suc (suc (suc (suc (suc zero))))) h l = b
four_or_five P a b (suc (suc (suc (suc (suc (suc k)))))) h l = absurd (omega arith)

pub conjunctions : (k : ℕ) → 4 ≤ k → k ≤ 5 → with (To Condition) (To Condition) Unused ≡ shape Boolean k
unfolding shape kinds
conjunctions k h l = four_or_five (λ (n : ℕ). with (To Condition) (To Condition) Unused ≡ shape Boolean n) refl refl k h l

pub constructs : (k : ℕ) → 4 ≤ k → k ≤ 5 → with (To Guarded) Unused Unused ≡ shape Commands k
unfolding shape kinds
constructs k h l = four_or_five (λ (n : ℕ). with (To Guarded) Unused Unused ≡ shape Commands n) refl refl k h l

pub jumps : (k : ℕ) → 8 ≤ k → k ≤ 9 → with Unused Unused Unused ≡ shape Commands k
unfolding shape kinds
jumps k h l = from_eight (λ (n : ℕ). n ≤ 9 → with Unused Unused Unused ≡ shape Commands n) by k h l
  where
    by : (k : ℕ) → suc (suc (suc (suc (suc (suc (suc (suc k))))))) ≤ 9 → with Unused Unused Unused ≡ shape Commands (suc (suc (suc (suc (suc (suc (suc (suc k))))))))
    by zero l = refl
    by (suc zero) l = refl
    by (suc (suc k)) l = absurd (omega arith)

pub unknown_arithmetic : (k : ℕ) → 8 ≤ k → Unknown ≡ shape Arithmetic k
unfolding shape kinds
unknown_arithmetic k h = sym (get_or-eq_default (kinds Arithmetic) Unknown h)

pub unknown_boolean : (k : ℕ) → 7 ≤ k → Unknown ≡ shape Boolean k
unfolding shape kinds
unknown_boolean k h = sym (get_or-eq_default (kinds Boolean) Unknown h)

pub unknown_command : (k : ℕ) → 10 ≤ k → Unknown ≡ shape Commands k
unfolding shape kinds
unknown_command k h = sym (get_or-eq_default (kinds Commands) Unknown h)
