-- Integers: magnitudes and bounds.
use Prim.Native.Nat.{ℕ, zero, suc, ◌+◌, ◌*◌, ◌≤◌}
use mathlib.Core.Path.{◌≡◌, refl}
use mathlib.Core.Bool.{true, false≢true}
use native.Mathlib.Nat.{mul-add}
use native.Mathlib.Omega.{arith}
use borrow.Author.Tests.{leb-true, le-leb}
use lib.Dec.{leb-zero}
use lib.IntN.{ℤ, pos, negsuc, neg_ℤ, nat_abs, ◌+ℤ◌}
use lib.Signed.{le_z}
use Rattle.signs.proofs.Signed as Signed

-- between −n and n a number's magnitude is at most n, and the other way round; from 0 to n too
pub between : (n : ℕ) (z : ℤ) → le_z (neg_ℤ (pos n)) z ≡ true → le_z z (pos n) ≡ true → nat_abs z ≤ n
between n (pos a) low high = leb-true a n high
between zero (negsuc a) low high = absurd (false≢true low)
between (suc n) (negsuc a) low high = omega (arith, leb-true a n low)

pub not_beyond : (n : ℕ) (z : ℤ) → nat_abs z ≤ n → (le_z (neg_ℤ (pos n)) z ≡ true) × (le_z z (pos n) ≡ true)
not_beyond zero (pos a) h = (leb-zero a, le-leb a 0 h)
not_beyond (suc n) (pos a) h = (refl, le-leb a (suc n) h)
not_beyond zero (negsuc a) h = absurd (omega arith)
not_beyond (suc n) (negsuc a) h = (le-leb a n (omega arith), refl)

pub upward : (n : ℕ) (z : ℤ) → le_z (pos 0) z ≡ true → le_z z (pos n) ≡ true → nat_abs z ≤ n
upward n (pos a) low high = leb-true a n high
upward n (negsuc a) low high = absurd (false≢true low)

-- numbers that are not below zero, added
pub not_below_zero : (a b : ℤ) → le_z (pos 0) a ≡ true → le_z (pos 0) b ≡ true → le_z (pos 0) (a +ℤ b) ≡ true
not_below_zero (pos a) (pos b) h k = leb-zero (a + b)
not_below_zero (pos a) (negsuc b) h k = absurd (false≢true k)
not_below_zero (negsuc a) b h k = absurd (false≢true h)

-- two numbers within so much for each of a count, added
pub within_each : (m n k : ℕ) (a b : ℤ) → nat_abs a ≤ m * n → nat_abs b ≤ m * k → nat_abs (a +ℤ b) ≤ m * (n + k)
within_each m n k a b h l = rw (mul-add m n k) (omega (arith, Signed.sum a b))
