-- `program::validation::Script::check_names` meets its contract.
use Rattle.std.specs.Prelude.{Ok}
use Prim.Native.Nat.{◌*◌, ◌≤◌}
use mathlib.Core.Path.{◌≡◌}
use Rattle.program.specs.Asking.{ask_each}
use Rattle.program.specs.File.{sizes, first_cell}
use Rattle.program.specs.Questions.{name_validity}
use Rattle.program.proofs.validation.Script.check_names.Given as goal

abbrev pub invariant-loop-i : goal.invariant-loop-i
invariant-loop-i l =
    (l.total ≡ first_cell (sizes l.self.bytes.now) l.i) × (l.total ≤ 65536 * l.i) × (ask_each l.i (name_validity l.self.bytes.now) ≡ Ok tt)
