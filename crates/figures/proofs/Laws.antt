-- The theorems on class figures, on one page. Their proofs are in the modules that they cite.
use Rattle.std.specs.Prelude.{Result, Err, Ok}
use mathlib.Core.Path.{◌≡◌}
use mathlib.Core.Bool.{true}
use mathlib.Core.List.{List, ◌++◌}
use Prim.Native.Nat.{ℕ, ◌<◌, ◌∣◌}
use lib.IntN.{ℤ, pos}
use lib.Signed.{le_z}
use Rattle.program.specs.declared.Refusal.{Refusal}
use Rattle.program.proofs.Places.{Told}
use Rattle.figures.specs.Figures.{InRange, variance, list_figures, join_figures, figures_numbers, Exact}
use Rattle.figures.specs.Fraction.{gcd, lowest, nought, LowestTerms}
use Rattle.figures.specs.Totals.{longest, totals}
use Rattle.figures.specs.declared.Figures.{Figures}
use Rattle.figures.specs.declared.Fraction.{Fraction}
use Rattle.figures.specs.declared.Totals.{Totals}
use Rattle.figures.proofs.Divisors
use Rattle.figures.proofs.Exactness
use Rattle.figures.proofs.Joint
use Rattle.figures.proofs.Lowest
use Rattle.figures.proofs.Placing
use Rattle.figures.proofs.Readback

-- ---- Fractions

-- the greatest common divisor divides both numbers, and every common divisor divides it
pub gcd_left : (a b : ℕ) → gcd a b ∣ a
gcd_left = Divisors.gcd_left

pub gcd_right : (a b : ℕ) → gcd a b ∣ b
gcd_right = Divisors.gcd_right

pub gcd_greatest : (a b k : ℕ) → k ∣ a → k ∣ b → k ∣ gcd a b
gcd_greatest = Divisors.gcd_greatest

-- "lowest-terms fractions with a positive denominator, zero as 0 over 1"
pub lowest_terms : (z : ℤ) (d : ℕ) → 0 < d → LowestTerms z d (lowest z d)
lowest_terms = Lowest.lowest_terms

-- and there is no other such fraction: what is above says all of `lowest`
pub lowest_only : (z : ℤ) (d : ℕ) → 0 < d → (f : Fraction) → LowestTerms z d f → f ≡ lowest z d
lowest_only = Lowest.lowest_only

pub lowest_zero : (d : ℕ) → 0 < d → lowest (pos 0) d ≡ nought
lowest_zero = Lowest.lowest_zero

-- ---- Replies

-- a reply of a list and of a join, where it is not refused: the fractions are in lowest terms and equal as ratios to what the order says, the
-- variance is not below zero, and the totals can be joined again
pub list_exact : (marks : List ℤ) (f : Figures) → list_figures marks ≡ Ok f → Exact f
list_exact = Exactness.list_exact

pub join_exact : (a b : Totals) (f : Figures) → join_figures a b ≡ Ok f → Exact f
join_exact = Exactness.join_exact

-- a refusal has a number, and its place is small
pub list_placed : (marks : List ℤ) (x : Refusal) → list_figures marks ≡ Err x → Told longest x
list_placed = Placing.list_placed

pub join_placed : (a b : Totals) (x : Refusal) → join_figures a b ≡ Err x → Told longest x
join_placed = Placing.join_placed

-- the variance of a list is never below zero, whatever integers it has
pub list_variance : (marks : List ℤ) → le_z (pos 0) (variance (totals marks)).numerator ≡ true
list_variance = Exactness.list_variance

-- "giving the figures of the joint list where each came from a list": the totals of two lists of marks, of none too, joined; those of two replies;
-- and those that a join replies, joined again
pub joint : (xs ys : List ℤ) → InRange xs → InRange ys → join_figures (totals xs) (totals ys) ≡ list_figures (xs ++ ys)
joint = Joint.joint

pub joint_replies : (xs ys : List ℤ) (f g : Figures) → list_figures xs ≡ Ok f → list_figures ys ≡ Ok g → join_figures f.totals g.totals ≡ list_figures (xs ++ ys)
joint_replies = Joint.joint_replies

pub joint_again : (xs ys zs : List ℤ) → InRange xs → InRange ys → InRange zs → (f : Figures) → join_figures (totals xs) (totals ys) ≡ Ok f
    → join_figures f.totals (totals zs) ≡ list_figures (xs ++ ys ++ zs)
joint_again = Joint.joint_again

-- ---- Rows of numbers

-- a reply is fixed by its row alone
pub figures_row_lem : (f g : Result Figures Refusal) → figures_numbers f ≡ figures_numbers g → f ≡ g
figures_row_lem = Readback.figures_row_lem
