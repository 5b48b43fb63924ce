-- `pizwoter_step`: too short, or the head of the answer, with node and count.
use mathlib.Core.Path.{sym, ap, ◌∙◌}
use mathlib.Core.List.{[], ◌∷◌, map}
use native.Mathlib.Omega.{arith}
use lib.IntN.{pos}
use Rattle.semantics.specs.Step.{stepped_numbers, step_row}
use Rattle.desk.specs.Rows.{two_told, stepped}
use Rattle.desk.proofs.Heads.{stepped_head}
use Rattle.desk.proofs.Places.{stepped_narrow}
use Rattle.desk.proofs.Replies.{short_told, short_kept, roomy_kept, told_by}
use Rattle.desk.proofs.steps.pizwoter_step.Goals as goal

pub returns-then-reply-lt-RUN : goal.returns-then-reply-lt-RUN
returns-then-reply-lt-RUN c = record { tells = short_told _ _ (omega (arith, c.if-reply-lt-RUN.true)) _; memory = short_kept _ _ (omega (arith, c.if-reply-lt-RUN.true)) _ _ }

pub of_outcome-requires : goal.of_outcome-requires
of_outcome-requires c = stepped_narrow _ _ _ _ c.step_on-stepped.ensures.value.0

pub returns : goal.returns
unfolding stepped step_row
returns c =
    let made = rw c.named.ensures at c.step_on-stepped.ensures.value in
    let s = c.step_on-stepped.result in record {
      tells = told_by (omega (arith, c.if-reply-lt-RUN.false)) (map pos (s.run.node ∷ s.run.count ∷ [])) c.put.type_inv
          (ap (λ x. two_told (stepped_numbers x)) (sym made.0) ∙ stepped_head s) c.of_outcome.ensures c.put.ensures;
      memory = made.1 ∙ roomy_kept _ _ (omega (arith, c.if-reply-lt-RUN.false)) _ _;
    }
