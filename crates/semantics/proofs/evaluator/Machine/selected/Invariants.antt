-- `Machine::selected`: the lower edges' guards in turn, and the edge's own last.
use Rattle.program.specs.Parts.Prepared.{entries_in, guards_in}
use Rattle.semantics.specs.Parts.Selecting.{FailsAfter}
use Rattle.semantics.proofs.evaluator.Machine.selected.Given as goal

abbrev pub invariant-loop-k : goal.invariant-loop-k
invariant-loop-k l = FailsAfter l.self.code.now l.memory (guards_in (entries_in l.self.code.now l.self.graph.now) l.self.graph.now l.node l.k) l.initial.v l.v
