-- `unfolding definitions` opens every definition of `figures` and of the crates below to a proof that goes by computation.
use Rattle.figures.specs.Fraction
use Rattle.figures.specs.Totals
use Rattle.figures.specs.Figures
use Rattle.figures.specs.Examples
use Rattle.program.proofs.Open as Below

unfoldable pub definitions : Unit {0}
unfolding Fraction.euclid Fraction.gcd Fraction.lowest Totals.sum_of Totals.totals Totals.joined Totals.spread Totals.countable Totals.possible Figures.mean Figures.variance Figures.in_range Figures.mark_validity Figures.list_validity Figures.join_validity Figures.figures_of Figures.figures_by Figures.list_figures Figures.join_figures Figures.fraction_numbers Figures.totals_numbers Figures.class_numbers Figures.figures_numbers Figures.figures_row Figures.join_row Examples.lists Examples.refusals Examples.joins Examples.cases Below.definitions
definitions = tt
