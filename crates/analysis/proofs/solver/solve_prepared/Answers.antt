-- `solver::solve_prepared`: refused by question 16 or by 17, or the list.
use Rattle.std.proofs.Common.{◌≡◌, ℕ, List, sym, ap, ◌∙◌, arith, Err}
use Rattle.signs.proofs.Results.{handed_on}
use Rattle.program.specs.Parts.Prepared.{Coded}
use Rattle.analysis.specs.Records.{initial_whole}
use Rattle.analysis.specs.declared.RecordList.TheVariants.{Initial}
use Rattle.analysis.proofs.Answering.{whole_asked, answered_asked, answered_formed, answered_refused, answered_malformed}
use Rattle.analysis.proofs.Judged.{ready_names, wrong_in, none_wrong}
use Rattle.analysis.proofs.solver.solve_prepared.Goals as goal
use Rattle.analysis.proofs.solver.solve_prepared.Goals.{After-ask}

-- what was asked of the start list's length
asked : (c : After-ask) {ns : List ℕ} → Coded ns c.args.code.now → initial_whole ns c.args.initial.now ≡ c.ask.result
asked c coded = whole_asked coded _ c.name_count-names.ensures c.whole.ensures c.ask.ensures

pub returns-in_err-ask : goal.returns-in_err-ask
returns-in_err-ask c ns g x =
    answered_refused _ (asked (goal.at.returns-in_err-ask c).After-ask x.coded ∙ c.in_err-ask.was) (handed_on _ c.from_residual.ensures.1)

pub returns-in_err-readable : goal.returns-in_err-readable
returns-in_err-readable c ns g x =
    let wrong = wrong_in Initial _ c.readable.ensures c.in_err-readable.was in
    answered_asked (asked (goal.at.returns-in_err-readable c).After-ask x.coded ∙ c.in_ok-ask.was)
    (answered_malformed _ (sym (c.initial_formed.ensures ns x.coded) ∙ wrong.was) (handed_on _ c.from_residual-in_err-readable.ensures.1 ∙ ap Err wrong.told))

pub returns : goal.returns
returns c ns g x =
    answered_asked (asked (goal.at.returns c).After-ask x.coded ∙ c.in_ok-ask.was)
    (answered_formed (sym (c.initial_formed.ensures ns x.coded) ∙ none_wrong Initial _ c.readable.ensures c.in_ok-readable.was) (c.solve_formed.ensures ns g x))

pub whole-requires : goal.whole-requires
whole-requires c =
    omega (arith, c.name_count-names.ensures, (ready_names c.requires).0)

pub initial_formed-requires : goal.initial_formed-requires
initial_formed-requires c =
    ready_names c.requires

pub solve_formed-requires : goal.solve_formed-requires
solve_formed-requires c =
    c.requires
