-- `Machine::effect`: by what the action is.
use Rattle.program.specs.Parts.Prepared.{decoded_meaning}
use Rattle.program.proofs.Laws.{boolean_whole, command_whole}
use Rattle.semantics.proofs.Effects.{no_effect, test_effect}
use Rattle.semantics.proofs.evaluator.Machine.effect.Goals as goal

pub returns-in-Nothing : goal.returns-in-Nothing
unfolding decoded_meaning
returns-in-Nothing c = rw c.in-Nothing.is no_effect

pub returns-in-Assign : goal.returns-in-Assign
unfolding decoded_meaning
returns-in-Assign c = rw c.in-Assign.is (c.assigned.ensures _)

pub returns-in-Store : goal.returns-in-Store
unfolding decoded_meaning
returns-in-Store c = rw c.in-Store.is (c.element_stored.ensures _)

pub returns-in-Holds : goal.returns-in-Holds
unfolding decoded_meaning
returns-in-Holds c =
    rw (c.in-Holds.is, boolean_whole c.args.self.code.now c.args.self.graph.now, c.passed.ensures)
    (test_effect (c.truth.ensures _))

pub returns-in-Exit : goal.returns-in-Exit
unfolding decoded_meaning
returns-in-Exit c =
    rw (c.in-Exit.is, command_whole c.args.self.code.now c.args.self.graph.now, c.passed-in-Exit.ensures)
    (test_effect c.exit.ensures)

pub returns-in-Guard : goal.returns-in-Guard
unfolding decoded_meaning
returns-in-Guard c =
    rw (c.in-Guard.is, boolean_whole c.args.self.code.now c.args.self.graph.now, c.passed-in-Guard.ensures)
    (test_effect (c.truth-in-Guard.ensures _))
