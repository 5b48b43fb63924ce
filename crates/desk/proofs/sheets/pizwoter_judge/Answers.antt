-- `pizwoter_judge`: too short, or the head of the verdict, with what stands behind it; and the third term of it.
use mathlib.Core.Path.{sym, subst}
use mathlib.Core.List.{map}
use native.Mathlib.Omega.{arith}
use lib.IntN.{pos}
use Rattle.analysis.specs.Verdict.{verdict_row}
use Rattle.desk.specs.Rows.{judged}
use Rattle.desk.proofs.Acceptance.{short_third, written_third}
use Rattle.desk.proofs.Heads.{verdict_head_lem}
use Rattle.desk.proofs.Places.{VerdictTold, verdict_told_lem, verdict_narrow}
use Rattle.desk.proofs.Replies.{short_told, told_by}
use Rattle.desk.proofs.sheets.pizwoter_judge.Goals as goal

pub returns-then-reply-lt-VERDICT : goal.returns-then-reply-lt-VERDICT
returns-then-reply-lt-VERDICT c = record { tells = short_told _ _ (omega (arith, c.if-reply-lt-VERDICT.true)) _; third = short_third _ _ _ _ _ }

pub of_verdict-requires : goal.of_verdict-requires
of_verdict-requires c = verdict_narrow _ _ _ _ c.judge_on-verdict.ensures.value

pub returns : goal.returns
unfolding judged verdict_row
returns c =
    let v = c.judge_on-verdict.result in
    let made = rw c.named.ensures at c.judge_on-verdict.ensures in
    let same = made.value in
    let told = subst VerdictTold (sym same) (verdict_told_lem _ _ _ _) in
    let wrote = c.put.ensures in record {
      tells = told_by (omega (arith, c.if-reply-lt-VERDICT.false)) (map pos c.behind-numbers.result) c.put.type_inv
          (rw (← same, ← c.name_count.ensures, c.behind-numbers.ensures) (verdict_head_lem _ v told)) c.of_verdict.ensures wrote;
      third = written_third _ _ _ _ c.name_count.result _ c.put.type_inv told made.third (rw (c.of_verdict.ensures, c.behind-numbers.ensures) at wrote);
    }
