-- Powers: the power that computes is the repeated product, and from where it leaves the range it stays outside.
use mathlib.Core.Path.{◌≡◌, refl, sym, ◌∙◌, ap}
use mathlib.Core.Bool.{Bool, true, false, cond, not, true≢false}
use Prim.Native.Nat.{ℕ, zero, suc, ◌+◌, ◌*◌, ◌%◌, ◌^◌, ◌≤◌, ◌<◌}
use native.Mathlib.Nat.{pow-zero, pow-suc, zero-mul, mul-zero, mul-one, mul-le-mul, pow-le-pow_left, pow-le-pow_right}
use native.Mathlib.Omega.{arith}
use borrow.Author.Tests.{eqb-true, eqb-false, eq-eqb, ne_eqb, ltb-true, ltb-false}
use lib.Dec.{eqb, ltb}
use lib.IntN.{ℤ, pos, negsuc, neg_ℤ, nat_abs, ◌*ℤ◌, one, pow, zero-*ℤ, pos-*ℤ-negsuc, negsuc-*ℤ-negsuc}
use lib.Pow.{pow_mono}
use lib.Signed.{lt_z, mag}
use Rattle.signs.specs.Number.{power, raised, exact}
use Rattle.signs.specs.declared.Reason.TheVariants.{ExponentNegative, OutOfRange}
use Rattle.std.specs.Prelude.{Err}
use Rattle.signs.proofs.Range.{exact_outside}
use Rattle.signs.proofs.Signed.{magnitude, mag_le, nat_abs_suc}

-- the next number has the other parity
parity : (n : ℕ) → eqb (suc n % 2) 0 ≡ not (eqb (n % 2) 0)
parity n = go (eqb (n % 2) 0) refl
  where
    go : (b : Bool) → eqb (n % 2) 0 ≡ b → eqb (suc n % 2) 0 ≡ not b
    go true e = ne_eqb (suc n % 2) 0 (λ z. omega (arith, eqb-true (n % 2) 0 e))
    go false e = eq-eqb (suc n % 2) 0 (omega (arith, eqb-false (n % 2) 0 e))

negative_times : (x a : ℕ) → neg_ℤ (pos x) *ℤ negsuc a ≡ pos (x * suc a)
negative_times zero a = zero-*ℤ (negsuc a) ∙ ap pos (sym (zero-mul (suc a)))
negative_times (suc x) a = negsuc-*ℤ-negsuc x a

-- one more negative factor changes the sign
step : (b : Bool) (x a : ℕ) → cond (not b) (pos (x * suc a)) (neg_ℤ (pos (x * suc a))) ≡ cond b (pos x) (neg_ℤ (pos x)) *ℤ negsuc a
step true x a = sym (pos-*ℤ-negsuc x a)
step false x a = sym (negative_times x a)

pub power_is_product : (z : ℤ) (n : ℕ) → power z n ≡ pow z n
unfolding power pow one
power_is_product (pos a) zero = ap pos (pow-zero a)
power_is_product (pos a) (suc n) = ap pos (pow-suc a n) ∙ ap (λ (z : ℤ). z *ℤ pos a) (power_is_product (pos a) n)
power_is_product (negsuc a) zero = ap pos (pow-zero (suc a))
power_is_product (negsuc a) (suc n) =
    rw (pow-suc (suc a) n, parity n)
    (step (eqb (n % 2) 0) (suc a ^ n) a ∙ ap (λ (z : ℤ). z *ℤ negsuc a) (power_is_product (negsuc a) n))

-- no factor, and one factor more
pub power_zero : (z : ℤ) → power z 0 ≡ pos 1
unfolding pow one
power_zero z = power_is_product z 0

pub power_suc : (z : ℤ) (n : ℕ) → power z (suc n) ≡ power z n *ℤ z
unfolding pow
power_suc z n = power_is_product z (suc n) ∙ ap (λ (x : ℤ). x *ℤ z) (sym (power_is_product z n))

-- the magnitude of a power is the power of the magnitude
pub power_magnitude : (z : ℤ) (n : ℕ) → nat_abs (power z n) ≡ nat_abs z ^ n
unfolding power
power_magnitude (pos a) n = refl
power_magnitude (negsuc a) n = go (eqb (n % 2) 0)
  where
    go : (b : Bool) → nat_abs (cond b (pos (suc a ^ n)) (neg_ℤ (pos (suc a ^ n)))) ≡ suc a ^ n
    go true = refl
    go false = magnitude (suc a ^ n)

one_pow : (n : ℕ) → 1 ^ n ≡ 1
one_pow zero = pow-zero 1
one_pow (suc n) = pow-suc 1 n ∙ mul-one (1 ^ n) ∙ one_pow n

pub zero_pow : (n : ℕ) → 0 < n → 0 ^ n ≡ 0
zero_pow zero h = absurd (omega arith)
zero_pow (suc n) h = pow-suc 0 n ∙ mul-zero (0 ^ n)

-- a power of so large a magnitude is out of the range
outside : (z : ℤ) (n : ℕ) → 4294967296 ≤ nat_abs z ^ n → exact (power z n) ≡ Err OutOfRange
outside z n h = exact_outside (power z n) (omega (arith, nat_abs_suc (power z n), power_magnitude z n))

-- a base whose power leaves the range is at least 2 in magnitude
base : (m i : ℕ) → 2147483648 ≤ m ^ i → 2 ≤ m
base m i h = go (ltb m 2) refl
  where
    go : (b : Bool) → ltb m 2 ≡ b → 2 ≤ m
    go true e = absurd (omega (arith, one_pow i, pow-le-pow_left {n = m} {m = 1} (omega (arith, ltb-true m 2 e)) i))
    go false e = ltb-false m 2 e

-- once a power is out of the range, so is every higher one
pub power_stays : (z : ℤ) (i n : ℕ) → i ≤ n → 2147483648 ≤ mag (power z i) → exact (power z n) ≡ Err OutOfRange
power_stays z i n le h = go (ltb i n) refl
  where
    large : 2147483648 ≤ nat_abs z ^ i
    large = omega (arith, mag_le (power z i), power_magnitude z i)

    go : (b : Bool) → ltb i n ≡ b → exact (power z n) ≡ Err OutOfRange
    go true e =
        outside z n
        (omega (
          arith,
          pow-suc (nat_abs z) i,
          mul-le-mul large (base (nat_abs z) i large),
          pow-le-pow_right {n = nat_abs z} (omega (arith, base (nat_abs z) i large)) {i = suc i} {j = n} (ltb-true i n e),
        ))
    go false e = let same : i ≡ n = omega (arith, ltb-false i n e) in rw (sym same) (exact_outside (power z i) h)

big : (z : ℤ) (n : ℕ) → 2 ≤ nat_abs z → 32 ≤ n → exact (power z n) ≡ Err OutOfRange
big z n two h = outside z n (omega (arith, pow_mono {i = 32} {j = n} h, pow-le-pow_left two n))

-- from the exponent 32 on, only its parity counts
power_enough : (z : ℤ) (n : ℕ) → 32 ≤ n → exact (power z (32 + n % 2)) ≡ exact (power z n)
unfolding power
power_enough (pos zero) n h = ap (λ (x : ℕ). exact (pos x)) (zero_pow (32 + n % 2) (omega arith) ∙ sym (zero_pow n (omega arith)))
power_enough (pos (suc zero)) n h = ap (λ (x : ℕ). exact (pos x)) (one_pow (32 + n % 2) ∙ sym (one_pow n))
power_enough (negsuc zero) n h =
    let even : (32 + n % 2) % 2 ≡ n % 2 = omega arith in rw (even, one_pow (32 + n % 2), one_pow n)
power_enough (pos (suc (suc a))) n h = big (pos (suc (suc a))) (32 + n % 2) (omega arith) (omega arith) ∙ sym (big (pos (suc (suc a))) n (omega arith) h)
power_enough (negsuc (suc a)) n h = big (negsuc (suc a)) (32 + n % 2) (omega arith) (omega arith) ∙ sym (big (negsuc (suc a)) n (omega arith) h)

pub power_shortened : (z : ℤ) (n : ℕ) → exact (power z (cond (ltb n 32) n (32 + n % 2))) ≡ exact (power z n)
power_shortened z n = go (ltb n 32) refl
  where
    go : (b : Bool) → ltb n 32 ≡ b → exact (power z (cond b n (32 + n % 2))) ≡ exact (power z n)
    go true e = refl
    go false e = power_enough z n (ltb-false n 32 e)

-- `raised` by the sign of its exponent
pub raised_negative : (a b : ℤ) → lt_z b (pos 0) ≡ true → raised a b ≡ Err ExponentNegative
unfolding raised
raised_negative a (pos n) e = absurd (omega (arith, ltb-true n 0 e))
raised_negative a (negsuc n) e = refl

pub raised_natural : (a b : ℤ) → lt_z b (pos 0) ≡ false → raised a b ≡ exact (power a (nat_abs b))
unfolding raised
raised_natural a (pos n) e = refl
raised_natural a (negsuc n) e = absurd (true≢false e)
