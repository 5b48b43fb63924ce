-- `sheets::of_verdict`: by the verdict's cases.
use mathlib.Core.Path.{ap, ◌∙◌}
use Rattle.std.specs.Prelude.{Err}
use Rattle.desk.proofs.sheets.of_verdict.Goals as goal

pub of_unreadable-requires : goal.of_unreadable-requires
of_unreadable-requires c = record { refused = λ x e. c.requires.refused x (c.in-Err.is ∙ ap Err e); malformed = λ w e. c.requires.malformed w (c.in-Err.is ∙ ap Err e) }
