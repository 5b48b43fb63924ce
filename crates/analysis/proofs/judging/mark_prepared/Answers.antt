-- `judging::mark_prepared`: 16, then 17, then the mark.
use Rattle.std.proofs.Common.{◌≡◌, ℕ, List, sym, ◌∙◌}
use Rattle.signs.proofs.Results.{handed_on}
use Rattle.program.specs.Asking.{ask_plain}
use Rattle.program.specs.Parts.Prepared.{Coded}
use Rattle.analysis.specs.Parts.Judging.{marked}
use Rattle.analysis.specs.Records.{record_width, whole_records}
use Rattle.analysis.specs.Verdict.{marking_by}
use Rattle.analysis.specs.declared.RecordList.TheVariants.{Solution}
use Rattle.analysis.proofs.Judged.{list_asked, list_whole, wrong_in, none_wrong}
use Rattle.analysis.proofs.judging.mark_prepared.Goals as goal
use Rattle.analysis.proofs.judging.mark_prepared.Goals.{After-ask}

-- what was asked of the list's length
asked : (c : After-ask) {ns : List ℕ} → Coded ns c.args.code.now → ask_plain (whole_records (record_width ns) c.args.solution.now) 16 ≡ c.ask.result
asked c {ns} coded = list_asked ns _ (c.name_count-names.ensures ∙ coded.count) _ _ c.whole.ensures _ c.ask.ensures

pub mark_formed-requires : goal.mark_formed-requires
mark_formed-requires c =
    (c.requires, rw (← c.name_count-names.ensures) (list_whole _ _ _ c.whole.ensures _ c.ask.ensures c.in_ok-ask.was))

pub returns-in_err-ask : goal.returns-in_err-ask
unfolding marked marking_by
returns-in_err-ask c ns g p = rw (asked (goal.at.returns-in_err-ask c).After-ask p.coded ∙ c.in_err-ask.was) (handed_on _ c.from_residual.ensures.1)

pub returns-in_err-readable : goal.returns-in_err-readable
unfolding marked marking_by
returns-in_err-readable c ns g p =
    let wrong = wrong_in Solution c.solution_formed-formed.result c.readable.ensures c.in_err-readable.was in
    rw (asked (goal.at.returns-in_err-readable c).After-ask p.coded ∙ c.in_ok-ask.was, sym (c.solution_formed-formed.ensures ns g p.coded (sym (c.node_count.ensures ∙ p.nodes))) ∙ wrong.was, ← wrong.told)
    (handed_on _ c.from_residual-in_err-readable.ensures.1)

pub returns : goal.returns
unfolding marked marking_by
returns c ns g p =
    let formed =
    sym (c.solution_formed-formed.ensures ns g p.coded (sym (c.node_count.ensures ∙ p.nodes))) ∙ none_wrong Solution _ c.readable.ensures c.in_ok-readable.was in
    rw (asked (goal.at.returns c).After-ask p.coded ∙ c.in_ok-ask.was, formed, c.mark_formed.ensures ns g p formed)
