-- `Runner::run_array`: each turn takes the edge that the definition takes.
use mathlib.Core.List.{List}
use Prim.Native.Nat.{ℕ, ◌-◌}
use Rattle.program.specs.Graph.{Graph}
use Rattle.program.specs.Parts.Prepared.{Prepared}
use Rattle.semantics.specs.Parts.Cells.{NumbersIn}
use Rattle.semantics.specs.Parts.Running.{Reached}
use Rattle.semantics.proofs.running.Runner.run_array.Given as goal

abbrev pub invariant-loop : goal.invariant-loop
invariant-loop l =
    (ns : List ℕ) (g : Graph) → Prepared ns g l.self.machine.code.now l.self.machine.graph.now → NumbersIn l.self.machine.code.now l.initial.memory → Reached ns g l.self.machine.code.now l.budget (l.budget - l.counter) l.initial.memory l.run l.memory
