-- What a reply that is not refused says: fractions in lowest terms, no variance below zero, totals that can be joined again.
use Rattle.std.specs.Prelude.{Ok}
use Prim.Native.Nat.{ℕ, ◌+◌, ◌*◌, ◌/◌, ◌≤◌}
use mathlib.Core.Path.{◌≡◌, sym, subst}
use mathlib.Core.Bool.{true, false≢true}
use mathlib.Core.List.{List}
use native.Mathlib.Nat.{mul-pos}
use lib.Dec.{leb-zero}
use lib.IntN.{ℤ, pos, negsuc}
use lib.Signed.{le_z, quot_z}
use Rattle.program.proofs.Laws.{ask_fit}
use Rattle.program.proofs.Tests.{three}
use Rattle.figures.specs.Figures.{mean, variance, join_validity, figures_of, list_figures, join_figures, Exact}
use Rattle.figures.specs.Fraction.{lowest}
use Rattle.figures.specs.Totals.{totals, joined, spread, countable, possible}
use Rattle.figures.specs.declared.Figures.{Figures}
use Rattle.figures.specs.declared.Totals.{Totals}
use Rattle.figures.proofs.Limits.{counted, fit_count, fit_in_range, Possible, possible_told, possible_is, list_possible, joined_possible}
use Rattle.figures.proofs.Lowest.{lowest_terms}
use Rattle.figures.proofs.Replies.{list_fit, list_made, join_fit, join_made}
use Rattle.figures.proofs.Squares.{list_spread}

-- a quotient of a number that is not below zero
quotient_natural : (z : ℤ) (g : ℕ) → le_z (pos 0) z ≡ true → le_z (pos 0) (quot_z z (pos g)) ≡ true
quotient_natural (pos n) g h = leb-zero (n / g)
quotient_natural (negsuc n) g h = absurd (false≢true h)

variance_natural : (t : Totals) → le_z (pos 0) (spread t) ≡ true → le_z (pos 0) (variance t).numerator ≡ true
unfolding variance lowest
variance_natural t h = quotient_natural (spread t) _ h

-- "a variance of a list is never below zero", whatever its numbers
pub list_variance : (marks : List ℤ) → le_z (pos 0) (variance (totals marks)).numerator ≡ true
list_variance marks = variance_natural (totals marks) (list_spread marks)

-- of totals that a class can have
figures_exact : (t : Totals) → 1 ≤ t.count → Possible t → Exact (figures_of t)
unfolding figures_of mean variance
figures_exact t some can =
    record {
      mean = lowest_terms t.sum t.count some;
      variance = lowest_terms (spread t) (t.count * t.count) (mul-pos some some);
      natural = variance_natural t can.spread;
      again = possible_is t can;
    }

pub list_exact : (marks : List ℤ) (f : Figures) → list_figures marks ≡ Ok f → Exact f
unfolding totals
list_exact marks f e =
    let fit = list_fit marks f e in
    subst Exact (sym (list_made marks f e)) (figures_exact (totals marks) (fit_count marks fit).some (list_possible marks (fit_in_range marks fit)))

pub join_exact : (a b : Totals) (f : Figures) → join_figures a b ≡ Ok f → Exact f
unfolding join_validity joined
join_exact a b f e =
    let tests = three (countable (a.count + b.count)) (possible a) (possible b) (ask_fit _ 23 0 (join_fit a b f e)) in
    subst Exact (sym (join_made a b f e))
    (figures_exact (joined a b) (counted _ tests.0).some (joined_possible a b (possible_told a tests.1) (possible_told b tests.2)))
