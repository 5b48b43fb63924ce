-- `Machine::store_index`: the value of a whole tree, tested by the name's size.
use Rattle.semantics.proofs.Effects.{store_index}
use Rattle.semantics.proofs.evaluator.Machine.store_index.Goals as goal

pub returns : goal.returns
returns c graph =
    store_index c.args.x (c.any_operand-v.ensures graph) c.size_of.ensures c.size_of.type_inv c.indexed.ensures
