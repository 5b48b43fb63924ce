-- `class::of_list`: by the answer to the questions; the totals of a fit list are small.
use Rattle.std.specs.Prelude.{Ok}
use mathlib.Core.Path.{◌≡◌, sym, ap, ◌∙◌}
use Rattle.signs.proofs.Results.{handed_on}
use Rattle.figures.specs.Figures.{list_validity, figures_of, list_figures, figures_row}
use Rattle.figures.specs.Totals.{totals}
use Rattle.figures.proofs.Limits.{fit_count, fit_bounded}
use Rattle.figures.proofs.Replies.{numbered, by_fit, by_refused}
use Rattle.figures.proofs.class.of_list.Goals as goal
use Rattle.figures.proofs.class.of_list.Goals.{In_ok-check}

-- a fit list
fit : (c : In_ok-check) → list_validity c.args.marks.now ≡ Ok tt
fit c = sym c.check.ensures ∙ c.in_ok-check.was

pub returns-in_err-check : goal.returns-in_err-check
unfolding list_figures figures_row
returns-in_err-check c =
    numbered (handed_on _ c.from_residual.ensures.1 ∙ by_refused _ _ _ (sym c.check.ensures ∙ c.in_err-check.was))

pub of_totals-requires : goal.of_totals-requires
unfolding totals
of_totals-requires c =
    let known = fit (goal.at.of_totals-requires c).In_ok-check in
    rw c.of_marks.ensures (record { some = (fit_count _ known).some; bounded = fit_bounded _ known })

pub returns : goal.returns
unfolding list_figures figures_row
returns c =
    numbered (ap Ok (c.of_totals.ensures ∙ ap figures_of c.of_marks.ensures) ∙ by_fit _ _ (fit (goal.at.returns c).In_ok-check))
