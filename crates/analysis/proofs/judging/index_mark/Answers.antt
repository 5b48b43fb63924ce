-- `judging::index_mark`: refused by the file's questions, or marked over the prepared program.
use Rattle.std.proofs.Common.{◌≡◌, ℕ, List, sym, ap, ◌∙◌, Result}
use Rattle.signs.proofs.Results.{handed_on}
use Rattle.analysis.specs.Verdict.{marking, marking_numbers, mark_row}
use Rattle.analysis.specs.declared.Mark.{Mark}
use Rattle.analysis.specs.declared.Unreadable.{Unreadable}
use Rattle.analysis.proofs.Judged.{ready, still, marking_refused, marking_marked}
use Rattle.analysis.proofs.judging.index_mark.Goals as goal

-- the two clauses of the contract
whole : (s solution : List ℕ) {r : Result Mark Unreadable} → r ≡ marking s solution → record { value : r ≡ marking s solution; numbers : marking_numbers r ≡ mark_row s solution }
unfolding mark_row
whole s solution k = record { value = k; numbers = ap marking_numbers k }

pub put-requires : goal.put-requires
put-requires c = (c.prepare_linked.ensures.prepared.prepared c.in_ok-prepare_linked.was).coded.long

pub mark_prepared-requires : goal.mark_prepared-requires
mark_prepared-requires c = ready c.prepare_linked.ensures c.in_ok-prepare_linked.was c.put.ensures

pub returns : goal.returns
returns c =
    let p = c.prepare_linked.ensures in
    let was = c.in_ok-prepare_linked.was in
    whole _ _ (c.mark_prepared.ensures _ _ (still p was c.put.ensures) ∙ sym (marking_marked _ _ (sym p.prepared.asked ∙ was)))

pub returns-in_err-prepare_linked : goal.returns-in_err-prepare_linked
returns-in_err-prepare_linked c =
    let p = c.prepare_linked.ensures.prepared in
    whole _ _ (handed_on _ c.from_residual.ensures.1 ∙ sym (marking_refused _ _ _ (sym p.asked ∙ c.in_err-prepare_linked.was)))
