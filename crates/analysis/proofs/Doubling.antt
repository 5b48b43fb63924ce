-- Doubled widths taken off a place, the largest first: how many widths are off is the quotient, what is left the remainder.
use Rattle.std.proofs.Common.{◌≡◌, ℕ, zero, suc, ◌+◌, ◌-◌, ◌*◌, ◌/◌, ◌%◌, ◌^◌, ◌<◌, ◌≤◌, Bool, true, false, cond, leb, refl, subst, le_trans, add-mul, mul-le-mul_left, pow-suc, mul-add, arith, pow_pos, pow_mono, leb-false, leb-true}
use native.Mathlib.Decide.{dec_lt}
use lib.Arith.{digits_div, digits_mod}
use mir.Val.{bool_byte}
use Rattle.analysis.specs.Parts.Doubling.{doubled, taken_off}

-- a width doubled k times is at least the k-th power of two, so it is a number of 32 bits only where k is below 32
power_below : (width k : ℕ) → 0 < width → 2 ^ k ≤ doubled width k
unfolding doubled
power_below width zero h = h
power_below width (suc k) h = rw (pow-suc 2 k) (omega (arith, power_below width k h))

pub few_doublings : (width k : ℕ) → 0 < width → doubled width k < 4294967296 → k < 32
few_doublings width k h l =
    elim (dec_lt k 32) [
      | yes p ↦ p
      | no p ↦ absurd (omega (arith, power_below width k h, pow_mono {i = 32} {j = k} (omega arith)))
    ]

pub doubled_positive : (width k : ℕ) → 0 < width → 0 < doubled width k
doubled_positive width k h = le_trans (pow_pos k) (power_below width k h)

-- `n` widths, each doubled k times, are off a place, and what is left has room for no further one
pub record Off (width place k n rest : ℕ) : Type 0 where
  pub whole : n * doubled width k + rest ≡ place
  pub less : rest < doubled width k

-- the law, for any width and any number of doublings: a doubling less, taken off where it fits
pub one_less : (width place k n rest : ℕ) {left w : ℕ} → left ≡ suc k → w ≡ doubled width k → Off width place left n rest
    → Off width place k (n + n + bool_byte (leb w rest)) (taken_off rest w)
unfolding doubled taken_off
one_less width place k n rest e f o = rw f (by (leb d rest) refl)
  where
    d : ℕ
    d = doubled width k

    off : Off width place (suc k) n rest
    off = subst (λ (j : ℕ). Off width place j n rest) e o

    by : (b : Bool) → leb d rest ≡ b → Off width place k (n + n + bool_byte b) (cond b (rest - d) rest)
    by true t = let fits = leb-true d rest t in record { whole = omega (arith, off.whole, fits, mul-add n d d, add-mul (n + n) 1 d, add-mul n n d); less = omega (arith, off.less, fits) }
    by false t = record { whole = omega (arith, off.whole, mul-add n d d, add-mul n n d); less = leb-false d rest t }

-- none is off the place itself; with the width itself off, quotient and remainder
pub none_off : (width place k : ℕ) → place < doubled width k → Off width place k 0 place
none_off width place k h = record { whole = omega arith; less = h }

pub all_off : (width place n rest : ℕ) {left : ℕ} → left ≡ 0 → Off width place left n rest → (place / width ≡ n) × (place % width ≡ rest)
unfolding doubled
all_off width place n rest e o = (rw (← off.whole) (digits_div n off.less), rw (← off.whole) (digits_mod n off.less))
  where
    off : Off width place 0 n rest
    off = subst (λ (j : ℕ). Off width place j n rest) e o

-- no more are off than the place is
pub few_off : (width place k n rest : ℕ) → 0 < width → Off width place k n rest → n ≤ place
few_off width place k n rest h o = omega (arith, o.whole, mul-le-mul_left n (doubled_positive width k h))
