-- `Lookup::first_picked`: the links are followed up to the first edge that is picked, or at which 42 is handed over.
use Rattle.std.proofs.Common.{◌≡◌, ◌-◌, ◌<◌, false}
use Rattle.program.specs.Parts.Prepared.{action_in, Following}
use Rattle.analysis.specs.Parts.Judging.{handed_over}
use Rattle.analysis.proofs.Searching.{Unpicked}
use Rattle.analysis.proofs.judging.Lookup.first_picked.Given as goal

abbrev pub invariant-loop-e : goal.invariant-loop-e
invariant-loop-e l =
    l.node < 129 → Following l.machine.graph.now l.node (Unpicked l.query l.machine.code.now l.machine.graph.now l.self.solution.now l.self.index.now l.self.rho.now l.self.names) l.e × Following l.machine.graph.now l.node (λ k. handed_over l.query (action_in l.machine.graph.now k) ≡ false) l.e

abbrev pub decreases-loop-e : goal.decreases-loop-e
decreases-loop-e l = l.count - l.e
