-- `judging::offending_on`: by the verdict's cases.
use Rattle.std.proofs.Common.{sym, ◌∙◌}
use Rattle.analysis.specs.Verdict.{offending}
use Rattle.analysis.proofs.Judged.{initial_part_lem, solution_part}
use Rattle.analysis.proofs.judging.offending_on.Goals as goal

pub returns-in-Ok-InitialMissing : goal.returns-in-Ok-InitialMissing
returns-in-Ok-InitialMissing c = rw (sym c.judge_on.ensures.value ∙ c.in-Ok-InitialMissing.is, c.in-Ok-InitialMissing.field-0-is) (initial_part_lem _ _ _ _ c.name_count-names.ensures _ _ c.part.ensures)

pub returns-in-Ok-ResultMissing : goal.returns-in-Ok-ResultMissing
returns-in-Ok-ResultMissing c = rw (sym c.judge_on.ensures.value ∙ c.in-Ok-ResultMissing.is, c.in-Ok-ResultMissing.field-0-is) (solution_part _ _ _ _ c.name_count-names.ensures _ _ _ c.part-in-Ok-ResultMissing.ensures)

pub returns-in-Err : goal.returns-in-Err
unfolding offending
returns-in-Err c = rw (sym c.judge_on.ensures.value ∙ c.in-Err.is)

pub returns-in-Ok-Accepted : goal.returns-in-Ok-Accepted
unfolding offending
returns-in-Ok-Accepted c = rw (sym c.judge_on.ensures.value ∙ c.in-Ok-Accepted.is, c.in-Ok-Accepted.field-0-is)
