-- `judging::judge_on`: refused by the file's questions, or judged over the prepared program.
use Rattle.std.proofs.Common.{sym, ◌∙◌}
use Rattle.signs.proofs.Results.{handed_on}
use Rattle.analysis.proofs.Judged.{ready, still, verdict_judged, verdict_refused, promised}
use Rattle.analysis.proofs.judging.judge_on.Goals as goal

pub put-requires : goal.put-requires
put-requires c = (c.prepare_linked.ensures.prepared.prepared c.in_ok-prepare_linked.was).coded.long

pub judge_prepared-requires : goal.judge_prepared-requires
judge_prepared-requires c = ready c.prepare_linked.ensures c.in_ok-prepare_linked.was c.put.ensures

pub returns : goal.returns
returns c =
    let p = c.prepare_linked.ensures in
    let was = c.in_ok-prepare_linked.was in
    promised _ _ _ _ (c.judge_prepared.ensures _ _ (still p was c.put.ensures) ∙ sym (verdict_judged _ _ _ _ (sym p.prepared.asked ∙ was)))

pub returns-in_err-prepare_linked : goal.returns-in_err-prepare_linked
returns-in_err-prepare_linked c =
    let p = c.prepare_linked.ensures.prepared in
    promised _ _ _ _ (handed_on _ c.from_residual.ensures.1 ∙ sym (verdict_refused _ _ _ _ _ (sym p.asked ∙ c.in_err-prepare_linked.was)))
