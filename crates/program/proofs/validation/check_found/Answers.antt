-- `program::validation::check_found` meets its contract.
use mathlib.Core.Path.{sym, ◌∙◌}
use Rattle.program.specs.Asking.{in_turn}
use Rattle.program.specs.Questions.{head_validity}
use Rattle.program.proofs.Asking.{raised, passed, last_asked}
use Rattle.program.proofs.validation.check_found.Goals as goal

pub returns-in_err-ask : goal.returns-in_err-ask
unfolding head_validity in_turn
returns-in_err-ask c = raised _ _ c.ask.ensures c.from_residual.ensures.1 c.in_err-ask.was

pub returns-in_err-ask-2 : goal.returns-in_err-ask-2
unfolding head_validity in_turn
returns-in_err-ask-2 c =
    rw (← c.whole_entries.ensures) (passed (sym c.ask.ensures ∙ c.in_ok-ask.was) (raised _ _ c.ask-2.ensures c.from_residual-in_err-ask-2.ensures.1 c.in_err-ask-2.was))

pub returns : goal.returns
unfolding head_validity in_turn
returns c =
    rw (← c.whole_entries.ensures) (passed (sym c.ask.ensures ∙ c.in_ok-ask.was) (passed (sym c.ask-2.ensures ∙ c.in_ok-ask-2.was) (last_asked _ _ c.ask-3.ensures)))
