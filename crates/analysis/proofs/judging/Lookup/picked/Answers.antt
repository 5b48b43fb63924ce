-- `Lookup::picked`: by the query.
use Rattle.std.proofs.Common.{ap, ◌∙◌}
use Rattle.program.specs.Parts.Prepared.{is_guard_node}
use Rattle.analysis.specs.Parts.Judging.{handed_over}
use Rattle.analysis.proofs.Searching.{picks_missing, picks_negative}
use Rattle.analysis.proofs.judging.Lookup.picked.Goals as goal

pub any_missing-requires : goal.any_missing-requires
any_missing-requires c =
    c.results-found.ensures.few

pub returns-in-MissingResult : goal.returns-in-MissingResult
unfolding handed_over
returns-in-MissingResult c ns g ρ e x y h t =
    let told = c.in-MissingResult.is in
    let plain = rw told at t in
    let a = c.plain_action-action.ensures plain in
    rw told
    (c.any_missing.ensures ns ρ e (rw (← e) (x.filled told)) (rw (← e) y)
    ∙ picks_missing x.prepared _ h _ a y _ (ap is_guard_node a ∙ plain) _ c.results-found.ensures _ c.edge_target-node.ensures)

pub returns-in-NegativeIndex : goal.returns-in-NegativeIndex
returns-in-NegativeIndex c ns g ρ e x y h t = rw c.in-NegativeIndex.is (c.may_be_negative.ensures ∙ picks_negative x.prepared _ h _ c.action-action.ensures y _)
