-- `pizwoter_run`: too short, or the head of the answer, with node and count.
use mathlib.Core.Path.{sym, ap, ◌∙◌}
use mathlib.Core.List.{[], ◌∷◌, map}
use native.Mathlib.Omega.{arith}
use lib.IntN.{pos}
use Rattle.semantics.specs.Budget.{ended_numbers, run_row}
use Rattle.desk.specs.Rows.{two_told, ran}
use Rattle.desk.proofs.Heads.{ended_head}
use Rattle.desk.proofs.Places.{ended_narrow}
use Rattle.desk.proofs.Replies.{short_told, short_kept, roomy_kept, told_by}
use Rattle.desk.proofs.steps.pizwoter_run.Goals as goal

pub returns-then-reply-lt-RUN : goal.returns-then-reply-lt-RUN
returns-then-reply-lt-RUN c = record { tells = short_told _ _ (omega (arith, c.if-reply-lt-RUN.true)) _; memory = short_kept _ _ (omega (arith, c.if-reply-lt-RUN.true)) _ _ }

pub of_ending-requires : goal.of_ending-requires
of_ending-requires c = ended_narrow _ _ _ _ c.run_on-ended.ensures.value.0

pub returns : goal.returns
unfolding ran run_row
returns c =
    let made = rw c.named.ensures at c.run_on-ended.ensures.value in
    let e = c.run_on-ended.result in record {
      tells = told_by (omega (arith, c.if-reply-lt-RUN.false)) (map pos (e.run.node ∷ e.run.count ∷ [])) c.put.type_inv
          (ap (λ x. two_told (ended_numbers x)) (sym made.0) ∙ ended_head e) c.of_ending.ensures c.put.ensures;
      memory = made.1 ∙ roomy_kept _ _ (omega (arith, c.if-reply-lt-RUN.false)) _ _;
    }
