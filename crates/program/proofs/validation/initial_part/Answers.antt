-- `program::validation::initial_part` meets its contract.
use mathlib.Core.Path.{◌≡◌, ap, sym}
use Rattle.program.specs.Parts.Layouts.{heads_of}
use Rattle.program.specs.File.{field_head, head_content}
use Rattle.program.specs.Questions.{initial_part}
use Rattle.program.specs.declared.FieldHeads.{FieldHeads}
use Rattle.program.proofs.validation.initial_part.Goals as goal
use Rattle.program.proofs.validation.initial_part.Goals.{After-heads-h}

-- what stands at the start list's field
fifth : (c : After-heads-h) → field_head c.args.s.now 4 ≡ c.heads-h.result.initial
unfolding heads_of
fifth c = sym (ap (λ (h : FieldHeads). h.initial) c.heads-h.ensures)

pub returns-in-Err : goal.returns-in-Err
unfolding initial_part head_content
returns-in-Err c = rw (fifth (goal.at.returns-in-Err c).After-heads-h, c.in-Err.is)

pub returns-in-Ok : goal.returns-in-Ok
unfolding initial_part head_content
returns-in-Ok c =
    rw (fifth (goal.at.returns-in-Ok c).After-heads-h, c.in-Ok.is) c.part.ensures
