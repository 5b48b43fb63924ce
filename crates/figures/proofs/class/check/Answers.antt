-- `class::check`: 23 first; where all marks are in the range, each is answered yes.
use mathlib.Core.Path.{◌≡◌, sym, ap, ◌∙◌}
use native.Mathlib.Omega.{arith}
use lib.ListN.{length}
use Rattle.program.proofs.Asking.{raised, passed}
use Rattle.program.specs.Asking.{ask, ask_plain}
use Rattle.figures.specs.Figures.{list_validity}
use Rattle.figures.specs.Totals.{countable}
use Rattle.figures.proofs.Joint.{each_in_range}
use Rattle.figures.proofs.class.check.Goals as goal
use Rattle.figures.proofs.class.check.Goals.{After-ask}

-- the first question
asked : (c : After-ask) → c.ask.result ≡ ask_plain (countable (length c.args.marks.now)) 23
asked c = c.ask.ensures ∙ ap (λ b. ask b 23 0) c.countable.ensures

pub returns-in_err-ask : goal.returns-in_err-ask
unfolding list_validity
returns-in_err-ask c = raised _ _ (asked (goal.at.returns-in_err-ask c).After-ask) c.from_residual.ensures.1 c.in_err-ask.was

pub returns-then-all_in_range : goal.returns-then-all_in_range
unfolding list_validity
returns-then-all_in_range c =
    let marks = c.args.marks.now in
    passed (sym (asked (goal.at.returns-then-all_in_range c).After-ask) ∙ c.in_ok-ask.was) (sym (each_in_range marks (c.all_in_range.ensures c.if-all_in_range.true) (length marks) (omega arith)))

pub returns : goal.returns
unfolding list_validity
returns c = passed (sym (asked (goal.at.returns c).After-ask) ∙ c.in_ok-ask.was) c.ask_each.ensures
