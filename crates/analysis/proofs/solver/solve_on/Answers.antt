-- `solver::solve_on`: refused by the file's questions, or solved over the prepared program.
use Rattle.std.proofs.Common.{sym, ◌∙◌}
use Rattle.signs.proofs.Results.{handed_on}
use Rattle.analysis.proofs.Answering.{validity_fit, validity_refused, answered_all, answered_asked, answered_refused}
use Rattle.analysis.proofs.Judged.{ready, still}
use Rattle.analysis.proofs.solver.solve_on.Goals as goal

pub put-requires : goal.put-requires
put-requires c = (c.prepare_linked.ensures.prepared.prepared c.in_ok-prepare_linked.was).coded.long

pub solve_prepared-requires : goal.solve_prepared-requires
solve_prepared-requires c = ready c.prepare_linked.ensures c.in_ok-prepare_linked.was c.put.ensures

pub returns : goal.returns
returns c =
    let p = c.prepare_linked.ensures in
    let was = c.in_ok-prepare_linked.was in
    answered_all _ _ _ _ (answered_asked (validity_fit _ _ (sym p.prepared.asked ∙ was)) (c.solve_prepared.ensures _ _ (still p was c.put.ensures)))

pub returns-in_err-prepare_linked : goal.returns-in_err-prepare_linked
returns-in_err-prepare_linked c =
    let p = c.prepare_linked.ensures.prepared in
    answered_all _ _ _ _ (answered_refused _ (validity_refused _ _ _ (sym p.asked ∙ c.in_err-prepare_linked.was)) (handed_on _ c.from_residual.ensures.1))
