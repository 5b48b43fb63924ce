-- `judging::judge_formed`: the solution is indexed, then 41, then 42 and the index mark.
use Rattle.std.proofs.Common.{sym, refl, ◌∙◌}
use Rattle.analysis.specs.Parts.Judging.{formed_verdict}
use Rattle.analysis.specs.Verdict.{verdict_by}
use Rattle.analysis.proofs.Judged.{few_records, ready_names}
use Rattle.analysis.proofs.judging.judge_formed.Goals as goal

pub put_index-requires : goal.put_index-requires
put_index-requires c =
    rw c.name_count-names.ensures (refl, (ready_names c.requires.0).1, few_records _ _ c.requires.2)

pub first_initial-missing-requires : goal.first_initial-missing-requires
first_initial-missing-requires c =
    let names = ready_names c.requires.0 in
    (c.put_index.ensures, rw c.name_count-names.ensures names.0, rw c.name_count-names.ensures names.1, rw c.name_count-names.ensures c.requires.1)

pub judge_results-requires : goal.judge_results-requires
judge_results-requires c =
    record { ready = c.requires.0; whole = c.requires.2; count = _; indexed = rw c.name_count-names.ensures at c.put_index.ensures }

pub returns-in-Some : goal.returns-in-Some
unfolding formed_verdict verdict_by
returns-in-Some c ns g p fit =
    rw (sym (c.first_initial-missing.ensures ns (sym (c.name_count-names.ensures ∙ p.coded.count))) ∙ c.in-Some.is)

pub returns-in-None : goal.returns-in-None
unfolding formed_verdict verdict_by
returns-in-None c ns g p fit =
    let names = c.name_count-names.ensures ∙ p.coded.count in
    rw (sym (c.first_initial-missing.ensures ns (sym names)) ∙ c.in-None.is)
    (c.judge_results.ensures ns g (record { prepared = p; formed = fit; filled = λ q. rw (← names) c.put_index.ensures }))
