-- `program::file::names_field` meets its contract.
use mathlib.Core.Path.{refl}
use Rattle.program.specs.File.{names_field}
use Rattle.program.proofs.file.names_field.Goals as goal

pub returns : goal.returns
unfolding names_field
returns c = refl
