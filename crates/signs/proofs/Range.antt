-- The range of values: what `exact` gives by whether a number fits 32 bits.
use mathlib.Core.Path.{◌≡◌, refl, sym, ap, ◌∙◌}
use mathlib.Core.Bool.{Bool, true, false, cond, ◌&&◌, false≢true}
use Prim.Native.Nat.{ℕ, ◌≤◌}
use native.Mathlib.Omega.{arith}
use borrow.Author.Tests.{lt-ltb, le-ltb, ltb-true, ltb-false}
use lib.Dec.{leb, ltb, leb-suc-suc}
use lib.IntN.{ℤ, pos, negsuc}
use lib.Signed.{lt_z, mag}
use mir.Syntax.{w32}
use mir.Val.{SFits}
use Rattle.signs.specs.Number.{in_range, exact}
use Rattle.signs.specs.declared.Reason.{Reason}
use Rattle.signs.specs.declared.Reason.TheVariants.{OutOfRange}
use Rattle.std.specs.Prelude.{Ok, Err}

-- a number is in the range where its magnitude says so
in_range_lem : (z : ℤ) → in_range z ≡ ltb (mag z) 2147483648
unfolding in_range
in_range_lem (pos n) = sym (leb-suc-suc n 2147483647)
in_range_lem (negsuc n) = and_true (leb n 2147483647) ∙ sym (leb-suc-suc n 2147483647)
  where
    and_true : (b : Bool) → (b && true) ≡ b
    and_true true = refl
    and_true false = refl

exact_by : (z : ℤ) (b : Bool) → ltb (mag z) 2147483648 ≡ b → exact z ≡ cond b (Ok z) (Err OutOfRange)
unfolding exact
exact_by z b e = ap (λ (t : Bool). cond t (Ok z) (Err OutOfRange)) (in_range_lem z ∙ e)

pub exact_within : (z : ℤ) → SFits w32 z → exact z ≡ Ok z
exact_within z f = exact_by z true (lt-ltb (mag z) 2147483648 f.sfits)

pub exact_outside : (z : ℤ) → 2147483648 ≤ mag z → exact z ≡ Err OutOfRange
exact_outside z h = exact_by z false (le-ltb (mag z) 2147483648 h)

-- the two tests against the ends of the range
pub below : (z : ℤ) → lt_z z (negsuc 2147483647) ≡ true → 2147483648 ≤ mag z
below (pos n) e = absurd (false≢true e)
below (negsuc n) e = ltb-true 2147483647 n e

pub above : (z : ℤ) → lt_z (pos 2147483647) z ≡ true → 2147483648 ≤ mag z
above (pos n) e = ltb-true 2147483647 n e
above (negsuc n) e = absurd (false≢true e)

pub within : (z : ℤ) → lt_z z (negsuc 2147483647) ≡ false → lt_z (pos 2147483647) z ≡ false → SFits w32 z
within (pos n) e f = record { sfits = omega (arith, ltb-false 2147483647 n f) }
within (negsuc n) e f = record { sfits = omega (arith, ltb-false 2147483647 n e) }

-- and back: what an exact result says of the number
pub exact_number : (z y : ℤ) → exact z ≡ Ok y → SFits w32 z × (z ≡ y)
exact_number z y e = go (ltb (mag z) 2147483648) refl
  where
    go : (b : Bool) → ltb (mag z) 2147483648 ≡ b → SFits w32 z × (z ≡ y)
    go true t = let same : exact z ≡ Ok z = exact_by z true t in (record { sfits = ltb-true (mag z) 2147483648 t }, cc)
    go false t =
        let other : exact z ≡ Err OutOfRange = exact_by z false t in
        let never : ◌≡◌ {A = ℕ} 0 1 = cc in absurd (omega arith)

pub exact_undefined : (z : ℤ) (r : Reason) → exact z ≡ Err r → 2147483648 ≤ mag z
exact_undefined z r e = go (ltb (mag z) 2147483648) refl
  where
    go : (b : Bool) → ltb (mag z) 2147483648 ≡ b → 2147483648 ≤ mag z
    go true t =
        let other : exact z ≡ Ok z = exact_by z true t in
        let never : ◌≡◌ {A = ℕ} 0 1 = cc in absurd (omega arith)
    go false t = ltb-false (mag z) 2147483648 t
