-- Totals small enough for 64 bits: what the code knows of them before it multiplies.
use Rattle.std.specs.Prelude.{◌*◌, ◌≤◌, Bool, ◌&&◌, pos, neg_ℤ, nat_abs}
use Rattle.std.specs.Int.Signed.{le_z}
use Rattle.figures.specs.Totals.{longest, highest, highest_square}
use Rattle.figures.specs.declared.Totals.{Totals}

-- a sum and a square sum that are within their limits for each mark, either way
pub record Limited (t : Totals) : Type 0 where
  pub low : nat_abs t.sum ≤ highest * t.count
  pub small : nat_abs t.squares ≤ highest_square * t.count

-- and at most 4,096 marks
pub record Bounded (t : Totals) : Type 0 where
  pub few : t.count ≤ longest
  pub limits : Limited t

-- the tests of the two sums among those of `possible`
abbrev pub within_limits : Totals → Bool
within_limits t =
    le_z (neg_ℤ (pos (highest * t.count))) t.sum
    && le_z t.sum (pos (highest * t.count))
    && le_z (pos 0) t.squares
    && le_z t.squares (pos (highest_square * t.count))
