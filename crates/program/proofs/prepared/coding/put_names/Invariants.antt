-- `program::prepared::coding::put_names` meets its contract.
use Prim.Native.Nat.{◌≤◌}
use mathlib.Core.Path.{◌≡◌}
use Rattle.program.specs.File.{sizes, first_cell}
use Rattle.program.specs.Parts.Preparing.{NamesPut}
use Rattle.program.proofs.prepared.coding.put_names.Given as goal

abbrev pub invariant-loop-i : goal.invariant-loop-i
invariant-loop-i l = record { few : l.names ≤ 32; small : l.total ≤ 512; cells : l.total ≡ first_cell (sizes l.program) l.i; put : NamesPut l.program l.i l.initial.code l.code }
