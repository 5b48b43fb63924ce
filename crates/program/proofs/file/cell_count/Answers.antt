-- `program::file::cell_count` meets its contract.
use mathlib.Core.Path.{◌∙◌}
use native.Mathlib.Omega.{arith}
use Rattle.program.proofs.Cells.{first_cell_past}
use Rattle.program.proofs.file.cell_count.Goals as goal

pub returns : goal.returns
returns c = c.first_cell.ensures ∙ first_cell_past _ _ (omega arith)
