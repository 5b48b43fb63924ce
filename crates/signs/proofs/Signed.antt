-- Signed numbers in the machine. A signed local holds bits; what is read back from them is the number, where that fits the width.
use mathlib.Core.Path.{◌≡◌, refl, ap, ◌∙◌}
use mathlib.Core.Bool.{Bool, true, false, cond, true≢false}
use Prim.Native.Nat.{ℕ, zero, suc, ◌+◌, ◌-◌, ◌*◌, ◌/◌, ◌≤◌, ◌<◌}
use native.Mathlib.Nat.{le_refl, mul-le-mul, div-le_self}
use native.Mathlib.Omega.{arith}
use borrow.Author.Tests.{ltb-true, eqb-true, eqb-false, eq-eqb, ne_eqb}
use lib.Dec.{T, ltb, eqb}
use lib.IntN.{ℤ, pos, negsuc, neg_ℤ, nat_abs, sub_ℕ, ◌+ℤ◌, ◌-ℤ◌, ◌*ℤ◌}
use lib.Signed.{lt_z, mag, non_neg, quot_z, nat_abs-le}
use mir.Facts.{sfits_widen}
use mir.Syntax.{Width, w32, w64}
use mir.Val.{to_z, of_z, Fits, SFits}
use mir.ValLaws.{to_z-of_z}
use Rattle.signs.specs.Number.{equal}

-- an order of what is read back, as the order of the numbers
pub less : (w : Width) (x y : ℤ) {b : Bool} → SFits w x → SFits w y → lt_z (to_z w (of_z w x)) (to_z w (of_z w y)) ≡ b → lt_z x y ≡ b
less w x y fx fy e = rw (to_z-of_z w x fx, to_z-of_z w y fy) at e

-- what a function of two numbers gives, where the machine passes their bits
pub passed : {X : Type 0} (f : ℤ → ℤ → X) {a b : ℤ} → SFits w32 a → SFits w32 b → f (to_z w32 (of_z w32 a)) (to_z w32 (of_z w32 b)) ≡ f a b
passed f {a} {b} fa fb = rw (to_z-of_z w32 a fa, to_z-of_z w32 b fb)

-- ---- magnitudes: what 32 bits hold is at most 2 ^ 31, and what is at most 2 ^ 62 fits 64 bits

pub magnitude : (n : ℕ) → nat_abs (neg_ℤ (pos n)) ≡ n
magnitude zero = refl
magnitude (suc n) = refl

-- a difference of naturals is at most their sum
difference : (a b : ℕ) → nat_abs (sub_ℕ a b) ≤ a + b
difference a b = go (ltb a b) refl
  where
    go : (t : Bool) → ltb a b ≡ t → nat_abs (cond t (negsuc (b - suc a)) (pos (a - b))) ≤ a + b
    go true e = omega (arith, ltb-true a b e)
    go false e = omega arith

pub sum : (a b : ℤ) → nat_abs (a +ℤ b) ≤ nat_abs a + nat_abs b
sum (pos a) (pos b) = omega arith
sum (pos a) (negsuc b) = difference a (suc b)
sum (negsuc a) (pos b) = omega (arith, difference b (suc a))
sum (negsuc a) (negsuc b) = omega arith

pub opposite : (a : ℤ) → nat_abs (neg_ℤ a) ≡ nat_abs a
opposite (pos zero) = refl
opposite (pos (suc n)) = refl
opposite (negsuc n) = refl

pub product : (a b : ℤ) → nat_abs (a *ℤ b) ≡ nat_abs a * nat_abs b
product (pos a) (pos b) = refl
product (pos a) (negsuc b) = magnitude (a * suc b)
product (negsuc a) (pos b) = magnitude (suc a * b)
product (negsuc a) (negsuc b) = refl

pub quotient : (a b : ℤ) → nat_abs (quot_z a b) ≤ nat_abs a
quotient (pos a) (pos b) = div-le_self a b
quotient (pos a) (negsuc b) = rw (magnitude (a / suc b)) (div-le_self a (suc b))
quotient (negsuc a) (pos b) = rw (magnitude (suc a / b)) (div-le_self (suc a) b)
quotient (negsuc a) (negsuc b) = div-le_self (suc a) (suc b)

pub mag_le : (z : ℤ) → mag z ≤ nat_abs z
mag_le (pos n) = le_refl n
mag_le (negsuc n) = omega arith

pub nat_abs_suc : (z : ℤ) → nat_abs z ≤ suc (mag z)
nat_abs_suc (pos n) = omega arith
nat_abs_suc (negsuc n) = le_refl (suc n)

pub fits : (z : ℤ) → nat_abs z ≤ 4611686018427387904 → SFits w64 z
fits z h = record { sfits = omega (arith, mag_le z) }

module _ {a b : ℤ} (fa : SFits w32 a) (fb : SFits w32 b) where
  pub sum_fits : SFits w64 (a +ℤ b)
  sum_fits = fits (a +ℤ b) (omega (arith, sum a b, nat_abs-le a fa.sfits, nat_abs-le b fb.sfits))

  pub difference_fits : SFits w64 (a -ℤ b)
  difference_fits = fits (a -ℤ b) (omega (arith, sum a (neg_ℤ b), opposite b, nat_abs-le a fa.sfits, nat_abs-le b fb.sfits))

  pub product_fits : SFits w64 (a *ℤ b)
  product_fits = fits (a *ℤ b) (rw (product a b) (mul-le-mul (nat_abs-le a fa.sfits) (nat_abs-le b fb.sfits)))

  pub quotient_fits : SFits w64 (quot_z a b)
  quotient_fits = fits (quot_z a b) (omega (arith, quotient a b, nat_abs-le a fa.sfits))

-- a number that is not negative is cast to an unsigned one
pub natural : (z : ℤ) → SFits w32 z → lt_z z (pos 0) ≡ false → T (non_neg z) × Fits w32 (nat_abs z)
natural (pos n) f e = (tt, record { fits = omega (arith, f.sfits) })
natural (negsuc n) f e = absurd (true≢false e)

-- ---- two 32-bit numbers widened to 64 bits, and an operation on them

-- a number after it was widened, as the machine reads it
abbrev pub wide : ℤ → ℤ
wide x = to_z w64 (of_z w64 (to_z w32 (of_z w32 x)))

pub widens : (x : ℤ) → SFits w32 x → SFits w64 (to_z w32 (of_z w32 x))
widens x f = rw (to_z-of_z w32 x f) (sfits_widen tt f)

pub wide_is : (x : ℤ) → SFits w32 x → wide x ≡ x
wide_is x f = to_z-of_z w64 (to_z w32 (of_z w32 x)) (widens x f) ∙ to_z-of_z w32 x f

module _ (op : ℤ → ℤ → ℤ) {a b : ℤ} (fa : SFits w32 a) (fb : SFits w32 b) (f : SFits w64 (op a b)) where
  pub wide_fits : SFits w64 (op (wide a) (wide b))
  wide_fits = rw (wide_is a fa, wide_is b fb) f

  pub wide_result : to_z w64 (of_z w64 (op (wide a) (wide b))) ≡ op a b
  wide_result = to_z-of_z w64 (op (wide a) (wide b)) wide_fits ∙ rw (wide_is a fa, wide_is b fb)

-- ---- tests for equality, which the machine makes on the bits

pub zero_bits : (z : ℤ) → SFits w32 z → of_z w32 z ≡ 0 → z ≡ pos 0
zero_bits (pos n) f e = ap pos e
zero_bits (negsuc n) f e = absurd (omega (arith, f.sfits))

pub no_bits : (z : ℤ) → (of_z w32 z ≡ 0 → ⊥) → equal z (pos 0) ≡ false
unfolding equal
no_bits (pos n) h = ne_eqb n 0 h
no_bits (negsuc n) h = refl

pub some_bits : (z : ℤ) → SFits w32 z → (of_z w32 z ≡ 0 → ⊥) → 0 < of_z w64 z
some_bits (pos zero) f h = absurd (h refl)
some_bits (pos (suc n)) f h = omega arith
some_bits (negsuc n) f h = omega (arith, f.sfits)

pub equal_bits : (a b : ℤ) → SFits w32 a → SFits w32 b → eqb (of_z w32 a) (of_z w32 b) ≡ equal a b
unfolding equal
equal_bits (pos a) (pos b) f g = refl
equal_bits (pos a) (negsuc b) f g = ne_eqb a (4294967296 - suc b) (λ e. omega (arith, f.sfits, g.sfits))
equal_bits (negsuc a) (pos b) f g = ne_eqb (4294967296 - suc a) b (λ e. omega (arith, f.sfits, g.sfits))
equal_bits (negsuc a) (negsuc b) f g = go (eqb a b) refl
  where
    go : (t : Bool) → eqb a b ≡ t → eqb (4294967296 - suc a) (4294967296 - suc b) ≡ t
    go true e = eq-eqb (4294967296 - suc a) (4294967296 - suc b) (omega (arith, eqb-true a b e))
    go false e = ne_eqb (4294967296 - suc a) (4294967296 - suc b) (λ h. eqb-false a b e (omega (arith, f.sfits, g.sfits)))
