-- `program::file::first_cell` meets its contract.
use Prim.Native.Nat.{◌≤◌, ◌*◌}
use mathlib.Core.Path.{◌≡◌}
use Rattle.program.specs.File.{sizes, first_cell}
use Rattle.program.proofs.file.first_cell.Given as goal

abbrev pub invariant-loop-k : goal.invariant-loop-k
invariant-loop-k l = (l.total ≡ first_cell (sizes l.s) l.k) × (l.total ≤ 65536 * l.k)
