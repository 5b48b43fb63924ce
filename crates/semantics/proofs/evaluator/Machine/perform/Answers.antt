-- `Machine::perform`: by what the action is.
use mathlib.Core.Path.{refl}
use Rattle.program.specs.Parts.Prepared.{decoded_meaning}
use Rattle.program.proofs.Laws.{boolean_whole, command_whole}
use Rattle.semantics.specs.Action.{after, is_defined}
use Rattle.semantics.proofs.Effects.{no_effect, test_effect, performs, held}
use Rattle.semantics.proofs.evaluator.Machine.perform.Goals as goal

pub returns-in-Nothing : goal.returns-in-Nothing
unfolding decoded_meaning after is_defined
returns-in-Nothing c = rw c.in-Nothing.is (performs no_effect (record { defined = refl; memory = refl }))

pub returns-in-Assign : goal.returns-in-Assign
unfolding decoded_meaning
returns-in-Assign c = rw c.in-Assign.is (c.assign.ensures _)

pub returns-in-Store : goal.returns-in-Store
unfolding decoded_meaning
returns-in-Store c = rw c.in-Store.is (c.store_element.ensures _)

pub returns-in-Holds : goal.returns-in-Holds
unfolding decoded_meaning
returns-in-Holds c =
    rw (c.in-Holds.is, boolean_whole c.args.self.code.now c.args.self.graph.now)
    (performs (test_effect (c.holds.ensures _)) (held _ c.holds.result c.is_true.ensures))

pub returns-in-Exit : goal.returns-in-Exit
unfolding decoded_meaning
returns-in-Exit c =
    rw (c.in-Exit.is, command_whole c.args.self.code.now c.args.self.graph.now)
    (performs (test_effect c.exit.ensures) (held _ c.exit.result c.is_true-in-Exit.ensures))

pub returns-in-Guard : goal.returns-in-Guard
unfolding decoded_meaning
returns-in-Guard c =
    rw (c.in-Guard.is, boolean_whole c.args.self.code.now c.args.self.graph.now)
    (performs (test_effect (c.holds-in-Guard.ensures _)) (held _ c.holds-in-Guard.result c.is_true-in-Guard.ensures))
