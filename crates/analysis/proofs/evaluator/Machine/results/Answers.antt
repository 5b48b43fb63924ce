-- `Machine::results` meets its contract.
use Rattle.program.specs.Parts.Prepared.{decoded_meaning}
use Rattle.program.proofs.Laws.{arith_whole}
use Rattle.analysis.proofs.Alike.{no_results, assign_results}
use Rattle.analysis.proofs.evaluator.Machine.results.Goals as goal

pub returns-in-Nothing : goal.returns-in-Nothing
unfolding decoded_meaning
returns-in-Nothing c = rw c.in-Nothing.is (no_results c.unchanged.ensures)

pub returns-in-Assign : goal.returns-in-Assign
unfolding decoded_meaning
returns-in-Assign c =
    let s = c.args in
    rw (c.in-Assign.is, arith_whole s.self.code.now s.self.graph.now c.in-Assign.a)
    (assign_results _ _ (rw (← c.signs-values.ensures s.self.graph.now) c.assigned_sets.ensures))

pub returns-in-Store : goal.returns-in-Store
unfolding decoded_meaning
returns-in-Store c =
    rw c.in-Store.is (c.element_stored.ensures c.args.self.graph.now)
