-- `program::validation::Script::check_all_uses` meets its contract.
use mathlib.Core.Path.{sym, ◌∙◌}
use Rattle.program.specs.Asking.{in_turn}
use Rattle.program.specs.Questions.{uses_validity}
use Rattle.program.proofs.Asking.{raised, passed, last_asked}
use Rattle.program.proofs.validation.Script.check_all_uses.Goals as goal

pub returns-in_err-check_uses : goal.returns-in_err-check_uses
unfolding uses_validity in_turn
returns-in_err-check_uses c = raised _ _ c.check_uses.ensures c.from_residual.ensures.1 c.in_err-check_uses.was

pub returns-in_err-check_uses-2 : goal.returns-in_err-check_uses-2
unfolding uses_validity in_turn
returns-in_err-check_uses-2 c =
    passed (sym c.check_uses.ensures ∙ c.in_ok-check_uses.was)
    (raised _ _ c.check_uses-2.ensures c.from_residual-in_err-check_uses-2.ensures.1 c.in_err-check_uses-2.was)

pub returns-in_err-check_uses-3 : goal.returns-in_err-check_uses-3
unfolding uses_validity in_turn
returns-in_err-check_uses-3 c =
    passed (sym c.check_uses.ensures ∙ c.in_ok-check_uses.was)
    (passed (sym c.check_uses-2.ensures ∙ c.in_ok-check_uses-2.was)
    (raised _ _ c.check_uses-3.ensures c.from_residual-in_err-check_uses-3.ensures.1 c.in_err-check_uses-3.was))

pub returns : goal.returns
unfolding uses_validity in_turn
returns c =
    passed (sym c.check_uses.ensures ∙ c.in_ok-check_uses.was)
    (passed (sym c.check_uses-2.ensures ∙ c.in_ok-check_uses-2.was)
    (passed (sym c.check_uses-3.ensures ∙ c.in_ok-check_uses-3.was)
    (last_asked _ _ c.check_last.ensures)))
