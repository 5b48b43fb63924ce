-- `Lookup::first_missing`: the links are followed up to the first edge along which a result is missing, or the first guard that may not fail.
use Rattle.std.proofs.Common.{ℕ, ◌-◌}
use Rattle.program.specs.Parts.Prepared.{Following}
use Rattle.semantics.specs.Parts.Selecting.{Opens}
use Rattle.analysis.proofs.Searching.{Passed}
use Rattle.analysis.proofs.judging.Lookup.first_missing.Given as goal

abbrev pub invariant-loop-e : goal.invariant-loop-e
invariant-loop-e l = (node : ℕ) → Opens l.machine.graph.now node l.first → Following l.machine.graph.now node (Passed l.machine.code.now l.machine.graph.now l.self.solution.now l.self.index.now l.self.rho.now l.self.names) l.e

abbrev pub decreases-loop-e : goal.decreases-loop-e
decreases-loop-e l = l.count - l.e
