-- `pizwoter_figures`: too short, or the row of the figures.
use mathlib.Core.Path.{sym, ap}
use native.Mathlib.Omega.{arith}
use Rattle.figures.specs.Figures.{figures_numbers, figures_row}
use Rattle.desk.specs.Rows.{figures_told, figured}
use Rattle.desk.proofs.Places.{list_narrow}
use Rattle.desk.proofs.Replies.{short_told, told_as}
use Rattle.desk.proofs.classes.pizwoter_figures.Goals as goal

pub returns-then-reply-lt-FIGURES : goal.returns-then-reply-lt-FIGURES
returns-then-reply-lt-FIGURES c = short_told _ _ (omega (arith, c.if-reply-lt-FIGURES.true)) _

pub put-requires-clause-narrow : goal.put-requires-clause-narrow
put-requires-clause-narrow c = list_narrow _ c.of_list.ensures.value

pub returns : goal.returns
unfolding figured figures_row
returns c = told_as (ap (λ f. figures_told (figures_numbers f)) (sym c.of_list.ensures.value)) c.put.type_inv c.put.ensures
