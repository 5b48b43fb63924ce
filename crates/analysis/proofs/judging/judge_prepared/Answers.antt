-- `judging::judge_prepared`: 16, 17 of the start list, 17 of the solution, and then the verdict.
use Rattle.std.specs.Prelude.{Ok}
use Rattle.std.proofs.Common.{◌≡◌, ℕ, List, sym, ap, ◌∙◌}
use Rattle.signs.proofs.Results.{handed_on}
use Rattle.program.specs.Parts.Prepared.{Coded}
use Rattle.analysis.specs.Parts.Judging.{formed_verdict}
use Rattle.analysis.specs.Records.{both_whole}
use Rattle.analysis.specs.Verdict.{verdict_over, verdict_unless_refused, unless_malformed}
use Rattle.analysis.specs.declared.RecordList.TheVariants.{Initial, Solution}
use Rattle.analysis.proofs.Judged.{both_asked, both_whole_lem, wrong_in, none_wrong}
use Rattle.analysis.proofs.judging.judge_prepared.Goals as goal
use Rattle.analysis.proofs.judging.judge_prepared.Goals.{After-ask}

-- what was asked of both lists' lengths
asked : (c : After-ask) {ns : List ℕ} → Coded ns c.args.code.now → both_whole ns c.args.initial.now c.args.solution.now ≡ c.ask.result
asked c {ns} coded = both_asked ns _ (c.name_count-names.ensures ∙ coded.count) _ _ _ c.both_whole.ensures _ c.ask.ensures

pub judge_formed-requires : goal.judge_formed-requires
judge_formed-requires c =
    let whole = both_whole_lem _ _ _ _ _ c.both_whole.ensures _ c.ask.ensures c.in_ok-ask.was in
    (c.requires, rw (← c.name_count-names.ensures) whole.0, rw (← c.name_count-names.ensures) whole.1)

pub returns-in_err-ask : goal.returns-in_err-ask
unfolding verdict_over verdict_unless_refused
returns-in_err-ask c ns g p = rw (asked (goal.at.returns-in_err-ask c).After-ask p.coded ∙ c.in_err-ask.was) (handed_on _ c.from_residual.ensures.1)

pub returns-in_err-readable : goal.returns-in_err-readable
unfolding verdict_over verdict_unless_refused unless_malformed
returns-in_err-readable c ns g p =
    let wrong = wrong_in Initial c.initial_formed-first.result c.readable.ensures c.in_err-readable.was in
    rw (asked (goal.at.returns-in_err-readable c).After-ask p.coded ∙ c.in_ok-ask.was, sym (c.initial_formed-first.ensures ns p.coded) ∙ wrong.was, ← wrong.told)
    (handed_on _ c.from_residual-in_err-readable.ensures.1)

pub returns-in_err-readable-2 : goal.returns-in_err-readable-2
unfolding verdict_over verdict_unless_refused unless_malformed
returns-in_err-readable-2 c ns g p =
    let first = none_wrong Initial _ c.readable.ensures c.in_ok-readable.was in
    let wrong = wrong_in Solution c.solution_formed-second.result c.readable-2.ensures c.in_err-readable-2.was in
    rw (asked (goal.at.returns-in_err-readable-2 c).After-ask p.coded ∙ c.in_ok-ask.was, sym (c.initial_formed-first.ensures ns p.coded) ∙ first, sym (c.solution_formed-second.ensures ns g p.coded (sym (c.node_count.ensures ∙ p.nodes))) ∙ wrong.was, ← wrong.told)
    (handed_on _ c.from_residual-in_err-readable-2.ensures.1)

pub returns : goal.returns
unfolding verdict_over verdict_unless_refused unless_malformed formed_verdict
returns c ns g p =
    let first = none_wrong Initial _ c.readable.ensures c.in_ok-readable.was in
    let formed = sym (c.solution_formed-second.ensures ns g p.coded (sym (c.node_count.ensures ∙ p.nodes))) ∙ none_wrong Solution _ c.readable-2.ensures c.in_ok-readable-2.was in
    rw (asked (goal.at.returns c).After-ask p.coded ∙ c.in_ok-ask.was, sym (c.initial_formed-first.ensures ns p.coded) ∙ first, formed) (ap Ok (c.judge_formed.ensures ns g p formed))
