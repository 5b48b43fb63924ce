-- `program::validation::validate` meets its contract.
use mathlib.Core.Path.{◌≡◌, ap, sym, ◌∙◌}
use Rattle.program.specs.Asking.{in_turn}
use Rattle.program.specs.Parts.Layouts.{heads_of}
use Rattle.program.specs.Questions.{end_validity, validity, validation_row}
use Rattle.program.specs.declared.FieldHeads.{FieldHeads}
use Rattle.program.proofs.Asking.{raised, passed, last_asked, numbered}
use Rattle.program.proofs.Fit.{laid_out}
use Rattle.program.proofs.Reading.{asked_end}
use Rattle.program.proofs.validation.validate.Goals as goal
use Rattle.program.proofs.validation.validate.Goals.{After-check_end}

-- question 5, after the fourth field
ended : (c : After-check_end) → c.check_end.result ≡ end_validity c.args.s.now 4
unfolding heads_of
ended c = asked_end _ 3 c.check_end.ensures c.after.ensures (ap (λ (h : FieldHeads). h.commands) c.heads-h.ensures)

pub returns-in_err-check_heads : goal.returns-in_err-check_heads
unfolding validity in_turn validation_row
returns-in_err-check_heads c = numbered (raised _ _ c.check_heads.ensures c.from_residual.ensures.1 c.in_err-check_heads.was)

pub returns-in_err-check_end : goal.returns-in_err-check_end
unfolding validity in_turn validation_row
returns-in_err-check_end c =
    numbered
    (passed (sym c.check_heads.ensures ∙ c.in_ok-check_heads.was)
    (raised _ _ (ended (goal.at.returns-in_err-check_end c).After-check_end) c.from_residual-in_err-check_end.ensures.1 c.in_err-check_end.was))

pub invariant_of-script : goal.invariant_of-script
invariant_of-script c = record { laid_out = laid_out _ (sym c.check_heads.ensures ∙ c.in_ok-check_heads.was) _ (c.layout_by.ensures _ c.heads-h.ensures) }

pub returns : goal.returns
unfolding validity in_turn validation_row
returns c =
    numbered
    (passed (sym c.check_heads.ensures ∙ c.in_ok-check_heads.was)
    (passed (sym (ended (goal.at.returns c).After-check_end) ∙ c.in_ok-check_end.was) (last_asked _ _ c.check_content.ensures)))
