-- `program::prepared::coding::put_cells` meets its contract.
use Rattle.program.specs.Parts.Preparing.{CellsPut}
use Rattle.program.proofs.prepared.coding.put_cells.Given as goal

abbrev pub invariant-loop-n : goal.invariant-loop-n
invariant-loop-n l = CellsPut l.n l.initial.code l.code
