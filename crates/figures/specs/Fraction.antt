-- Fractions in lowest terms (order 13: "Both come as lowest-terms fractions with a positive denominator, zero as 0 over 1").
use Rattle.std.specs.Prelude.{ℕ, zero, suc, ◌/◌, ◌%◌, ◌<◌, ◌≤◌, true, ◌≡◌, ℤ, pos, nat_abs, ◌*ℤ◌}
use Rattle.std.specs.Int.{◌∣◌}
use Rattle.std.specs.Int.Signed.{le_z, quot_z}
use Rattle.figures.specs.declared.Fraction.{Fraction}

-- Euclid's algorithm, with so many steps at most: where the second number is 0 the first is the answer, else the second and the remainder go on
unfoldable pub euclid : ℕ → ℕ → ℕ → ℕ
euclid zero a b = a
euclid (suc steps) a zero = a
euclid (suc steps) a (suc b) = euclid steps (suc b) (a % suc b)

-- the greatest common divisor: it divides both numbers, and every common divisor divides it (`proofs/Laws`). The second number falls at each step,
-- so as many steps as it counts are enough
unfoldable pub gcd : ℕ → ℕ → ℕ
gcd a b = euclid b a b

-- an integer over a positive number, in lowest terms: both divided by their greatest common divisor
unfoldable pub lowest : ℤ → ℕ → Fraction
lowest z d = record { numerator = quot_z z (pos (gcd (nat_abs z) d)); denominator = pos (d / gcd (nat_abs z) d) }

-- "zero as 0 over 1"
abbrev pub nought : Fraction
nought = record { numerator = pos 0; denominator = pos 1 }

-- what a fraction in lowest terms is: the same ratio as an integer over a number, "with a positive denominator", and with no common divisor but 1.
-- `proofs/Laws` shows it of `lowest`, and that no other fraction is so
pub record LowestTerms (z : ℤ) (d : ℕ) (f : Fraction) : Type 0 where
  pub ratio : f.numerator *ℤ pos d ≡ z *ℤ f.denominator
  pub positive : le_z (pos 1) f.denominator ≡ true
  pub coprime : (k : ℕ) → k ∣ nat_abs f.numerator → k ∣ nat_abs f.denominator → k ≡ 1

-- what 64 bits can reduce: a number of at most 2 ^ 62 either way, over a positive one of at most so much
pub record Reducible (z : ℤ) (d : ℕ) : Type 0 where
  pub whole : nat_abs z ≤ 4611686018427387904
  pub some : 0 < d
  pub narrow : d ≤ 4611686018427387904
