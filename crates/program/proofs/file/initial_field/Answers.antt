-- `program::file::initial_field` meets its contract.
use mathlib.Core.Path.{refl}
use Rattle.program.specs.File.{initial_field}
use Rattle.program.proofs.file.initial_field.Goals as goal

pub returns : goal.returns
unfolding initial_field
returns c = refl
