-- `lowest` gives the fraction in lowest terms.
use Prim.Native.Nat.{ℕ, zero, suc, ◌*◌, ◌/◌, ◌≤◌, ◌<◌, ◌∣◌}
use mathlib.Core.Bool.{true, false≢true}
use mathlib.Core.Path.{◌≡◌, refl, sym, ap, ◌∙◌}
use native.Mathlib.Nat.{zero-lt-suc, mul_comm, mul_assoc, mul_right_comm, mul-pos, zero-mul, one-mul, eq_of_mul-eq-mul_right, dvd-mul_left, dvd_antisymm, div-mul_cancel, le_of_dvd, le-div_iff_mul-le, zero-mod, zero-div, div_self}
use native.Mathlib.Omega.{arith}
use borrow.Author.Tests.{le-leb, leb-true}
use lib.IntN.{ℤ, pos, negsuc, neg_ℤ, nat_abs, ◌*ℤ◌, pos-ne-negsuc}
use lib.Signed.{le_z, quot_z}
use Rattle.signs.proofs.Signed.{magnitude, product}
use Rattle.figures.specs.declared.Fraction.{Fraction}
use Rattle.figures.specs.Fraction.{gcd, lowest, nought, LowestTerms}
use Rattle.figures.proofs.Divisors.{gcd_zero, gcd_step, gcd_left, gcd_right, gcd_some, coprime, divides_other}

-- a quotient's magnitude
quotient_size : (z : ℤ) (g : ℕ) → nat_abs (quot_z z (pos g)) ≡ nat_abs z / g
quotient_size (pos n) g = refl
quotient_size (negsuc n) g = magnitude (suc n / g)

-- the opposite of a natural, multiplied
opposite_times : (a b : ℕ) → neg_ℤ (pos a) *ℤ pos b ≡ neg_ℤ (pos (a * b))
opposite_times zero b = rw (zero-mul b)
opposite_times (suc a) b = refl

-- a number divided, times another divided by the same
crossed : (n d g : ℕ) → g ∣ n → g ∣ d → n / g * d ≡ n * (d / g)
crossed n d g gn gd =
    ap (λ x. n / g * x) (sym (div-mul_cancel g gd))
    ∙ ap (λ x. n / g * x) (mul_comm (d / g) g)
    ∙ sym (mul_assoc (n / g) g (d / g))
    ∙ ap (λ x. x * (d / g)) (div-mul_cancel g gn)

-- the ratio
same_ratio : (z : ℤ) (d g : ℕ) → g ∣ nat_abs z → g ∣ d → quot_z z (pos g) *ℤ pos d ≡ z *ℤ pos (d / g)
same_ratio (pos n) d g gn gd = ap pos (crossed n d g gn gd)
same_ratio (negsuc n) d g gn gd = opposite_times (suc n / g) d ∙ ap (λ x. neg_ℤ (pos x)) (crossed (suc n) d g gn gd)

pub lowest_terms : (z : ℤ) (d : ℕ) → 0 < d → LowestTerms z d (lowest z d)
unfolding lowest
lowest_terms z d h =
    let n = nat_abs z in
    let g = gcd n d in
    let whole : 1 * g ≤ d = rw one-mul (le_of_dvd h (gcd_right n d)) in
    record {
      ratio = same_ratio z d g (gcd_left n d) (gcd_right n d);
      positive = le-leb 1 (d / g) ((le-div_iff_mul-le (gcd_some n d h)).1 whole);
      coprime = λ k kn kd. coprime n d h k (rw (quotient_size z g) at kn) kd;
    }

-- "zero as 0 over 1"
pub lowest_zero : (d : ℕ) → 0 < d → lowest (pos 0) d ≡ nought
unfolding lowest
lowest_zero d h =
    let all : gcd 0 d ≡ d = gcd_step 0 d h ∙ ap (gcd d) (zero-mod d) ∙ gcd_zero d in
    rw (all, zero-div d, div_self h)

-- ---- There is no other

-- terms with no common divisor but 1, in the ratio of n to d, are n and d divided by their greatest common divisor
same_terms : (n d p q : ℕ) → 0 < d → ((k : ℕ) → k ∣ p → k ∣ q → k ≡ 1) → p * d ≡ n * q → (p ≡ n / gcd n d) × (q ≡ d / gcd n d)
same_terms n d p q h apart e =
    let g = gcd n d in
    let some = gcd_some n d h in
    let top = n / g in
    let bottom = d / g in
    let up : p * bottom * g ≡ p * d = mul_assoc p bottom g ∙ ap (λ x. p * x) (div-mul_cancel g (gcd_right n d)) in
    let down : top * q * g ≡ n * q = mul_right_comm top q g ∙ ap (λ x. x * q) (div-mul_cancel g (gcd_left n d)) in
    let cross : p * bottom ≡ top * q = eq_of_mul-eq-mul_right g some (p * bottom) (top * q) (up ∙ e ∙ sym down) in
    let there : q ∣ bottom = divides_other q p bottom (λ k kq kp. apart k kp kq) (rw cross (dvd-mul_left q top)) in
    let back : bottom ∣ q = divides_other bottom top q (λ k kb kt. coprime n d h k kt kb) (rw (← cross) (dvd-mul_left bottom p)) in
    let same : q ≡ bottom = dvd_antisymm there back in
    let positive : 0 < bottom = (le-div_iff_mul-le some).1 (rw one-mul (le_of_dvd h (gcd_right n d))) in
    (eq_of_mul-eq-mul_right bottom positive p top (cross ∙ ap (λ x. top * x) same), same)

never : (m k : ℕ) → 0 < k → pos m ≡ neg_ℤ (pos k) → ⊥
never m zero h e = omega arith
never m (suc k) h e = pos-ne-negsuc m k e

-- the numerator has the sign of the number
same_sign : (a z : ℤ) (d b g : ℕ) → 0 < d → 0 < b → a *ℤ pos d ≡ z *ℤ pos b → nat_abs a ≡ nat_abs z / g → a ≡ quot_z z (pos g)
same_sign (pos a) (pos n) d b g hd hb e m = ap pos m
same_sign (negsuc a) (negsuc n) d b g hd hb e m = ap (λ k. neg_ℤ (pos k)) m
same_sign (pos a) (negsuc n) d b g hd hb e m = absurd (never (a * d) (suc n * b) (mul-pos (zero-lt-suc n) hb) e)
same_sign (negsuc a) (pos n) d b g hd hb e m = absurd (never (n * b) (suc a * d) (mul-pos (zero-lt-suc a) hd) (sym e))

only : (z : ℤ) (d : ℕ) → 0 < d → (a b : ℤ) → a *ℤ pos d ≡ z *ℤ b → le_z (pos 1) b ≡ true → ((k : ℕ) → k ∣ nat_abs a → k ∣ nat_abs b → k ≡ 1)
    → record { numerator = a; denominator = b } ≡ lowest z d
unfolding lowest
only z d h a (negsuc b) e positive apart = absurd (false≢true positive)
only z d h a (pos b) e positive apart =
    let sizes : nat_abs a * d ≡ nat_abs z * b = sym (product a (pos d)) ∙ ap nat_abs e ∙ product z (pos b) in
    let terms = same_terms (nat_abs z) d (nat_abs a) b h apart sizes in
    let top : a ≡ quot_z z (pos (gcd (nat_abs z) d)) = same_sign a z d b _ h (leb-true 1 b positive) e terms.0 in
    rw (top, terms.1)

pub lowest_only : (z : ℤ) (d : ℕ) → 0 < d → (f : Fraction) → LowestTerms z d f → f ≡ lowest z d
lowest_only z d h f t = only z d h f.numerator f.denominator t.ratio t.positive t.coprime
