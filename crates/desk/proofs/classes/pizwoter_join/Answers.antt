-- `pizwoter_join`: too short, or the row of the figures; the machine hands the totals on as they are.
use mathlib.Core.Path.{◌≡◌, sym, ap}
use native.Mathlib.Omega.{arith}
use Rattle.std.proofs.lemmas.Int.{to_z-of_z}
use Rattle.figures.specs.Figures.{join_figures, figures_numbers, join_row}
use Rattle.figures.specs.Totals.{class}
use Rattle.desk.specs.Rows.{figures_told, joined}
use Rattle.desk.proofs.Places.{join_narrow}
use Rattle.desk.proofs.Replies.{short_told, told_as}
use Rattle.desk.proofs.classes.pizwoter_join.Goals as goal
use Rattle.desk.proofs.classes.pizwoter_join.Goals.{After-of_join}

-- the figures of the two classes
told : (c : After-of_join) → c.of_join.result ≡ join_figures (class c.args.first_count c.args.first_sum c.args.first_squares) (class c.args.second_count c.args.second_sum c.args.second_squares)
told c = grind (arith, to_z-of_z)

pub returns-then-reply-lt-FIGURES : goal.returns-then-reply-lt-FIGURES
returns-then-reply-lt-FIGURES c = short_told _ _ (omega (arith, c.if-reply-lt-FIGURES.true)) _

pub put-requires-clause-narrow : goal.put-requires-clause-narrow
put-requires-clause-narrow c = join_narrow _ _ (told (goal.at.put-requires-clause-narrow c).After-of_join)

pub returns : goal.returns
unfolding joined join_row
returns c = told_as (ap (λ f. figures_told (figures_numbers f)) (sym (told (goal.at.returns c).After-of_join))) c.put.type_inv c.put.ensures
