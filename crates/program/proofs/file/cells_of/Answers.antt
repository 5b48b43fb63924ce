-- `program::file::cells_of` meets its contract.
use native.Mathlib.Omega.{arith}
use Rattle.program.specs.File.{cells_of}
use Rattle.program.proofs.file.cells_of.Goals as goal

pub returns : goal.returns
unfolding cells_of
returns c = grind arith
