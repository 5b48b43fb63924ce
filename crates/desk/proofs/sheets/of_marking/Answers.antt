-- `sheets::of_marking`: by the answer's cases.
use mathlib.Core.Path.{ap, ◌∙◌}
use Rattle.std.specs.Prelude.{Err}
use Rattle.desk.specs.Parts.Heads.{marking_head}
use Rattle.desk.proofs.sheets.of_marking.Goals as goal

pub of_unreadable-requires : goal.of_unreadable-requires
of_unreadable-requires c = record { refused = λ x e. c.requires.refused x (c.in-Err.is ∙ ap Err e); malformed = λ w e. c.requires.malformed w (c.in-Err.is ∙ ap Err e) }

pub returns-in-Ok : goal.returns-in-Ok
unfolding marking_head
returns-in-Ok c = rw c.in-Ok.is c.of_mark.ensures

pub returns-in-Err : goal.returns-in-Err
unfolding marking_head
returns-in-Err c = rw c.in-Err.is c.of_unreadable.ensures
