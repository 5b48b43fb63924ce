-- `Runner::first_true`: the links are followed up to the first guard that does not fail.
use Prim.Native.Nat.{ℕ, ◌-◌}
use mathlib.Core.List.{List}
use Rattle.program.specs.Graph.{Graph}
use Rattle.program.specs.Parts.Prepared.{Prepared, Following}
use Rattle.semantics.specs.Parts.Cells.{NumbersIn}
use Rattle.semantics.specs.Parts.Selecting.{Opens, Fails}
use Rattle.semantics.proofs.running.Runner.first_true.Given as goal

abbrev pub invariant-loop-k : goal.invariant-loop-k
invariant-loop-k l =
    (ns : List ℕ) (g : Graph) (node : ℕ) → Prepared ns g l.self.machine.code.now l.self.machine.graph.now → NumbersIn l.self.machine.code.now l.memory → Opens l.self.machine.graph.now node l.first → Following l.self.machine.graph.now node (Fails ns l.self.machine.code.now l.self.machine.graph.now l.memory) l.k

abbrev pub decreases-loop-k : goal.decreases-loop-k
decreases-loop-k l = l.count - l.k
