-- `Runner::take_lowest`: the links are followed up to the first edge that is performed.
use Prim.Native.Nat.{ℕ, ◌-◌, ◌<◌}
use mathlib.Core.List.{List}
use Rattle.program.specs.Graph.{Graph}
use Rattle.program.specs.Parts.Prepared.{Prepared}
use Rattle.semantics.specs.Parts.Cells.{NumbersIn}
use Rattle.semantics.proofs.Choosing.{Looking}
use Rattle.semantics.proofs.running.Runner.take_lowest.Given as goal

abbrev pub invariant-loop-e : goal.invariant-loop-e
invariant-loop-e l =
    (ns : List ℕ) (g : Graph) → Prepared ns g l.self.machine.code.now l.self.machine.graph.now → NumbersIn l.self.machine.code.now l.initial.memory → l.node < 129 → Looking ns g l.self.machine.graph.now l.node l.initial.memory l.memory l.e

abbrev pub decreases-loop-e : goal.decreases-loop-e
decreases-loop-e l = l.count - l.e
