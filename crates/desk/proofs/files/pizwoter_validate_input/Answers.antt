-- `pizwoter_validate_input`: too short, or the head of the answer.
use mathlib.Core.Path.{sym, ap, ◌∙◌}
use mathlib.Core.List.{[]}
use native.Mathlib.Omega.{arith}
use Rattle.program.specs.Asking.{validity_numbers}
use Rattle.program.specs.Questions.{input_row}
use Rattle.desk.specs.Rows.{validation_told, input_validated}
use Rattle.desk.proofs.Heads.{validation_head}
use Rattle.desk.proofs.Places.{input_narrow}
use Rattle.desk.proofs.Replies.{short_told, told_by}
use Rattle.desk.proofs.files.pizwoter_validate_input.Goals as goal

pub returns-then-reply-lt-VALIDATION : goal.returns-then-reply-lt-VALIDATION
returns-then-reply-lt-VALIDATION c = short_told _ _ (omega (arith, c.if-reply-lt-VALIDATION.true)) _

pub of_validity-requires : goal.of_validity-requires
of_validity-requires c = input_narrow _ c.validate_input-v.ensures.value

pub returns : goal.returns
unfolding input_validated input_row
returns c =
    told_by (omega (arith, c.if-reply-lt-VALIDATION.false)) [] c.put_head.type_inv
    (ap (λ v. validation_told (validity_numbers v)) (sym c.validate_input-v.ensures.value) ∙ validation_head _) c.of_validity.ensures c.put_head.ensures
