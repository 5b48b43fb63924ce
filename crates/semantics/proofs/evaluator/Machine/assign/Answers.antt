-- `Machine::assign`: the value is that of a whole tree, and the cell the name's first.
use Rattle.semantics.proofs.Effects.{assign_effect, performs}
use Rattle.semantics.proofs.evaluator.Machine.assign.Goals as goal

pub returns : goal.returns
returns c graph =
    performs (assign_effect c.args.x (c.any_value-v.ensures graph)) (rw c.first_cell.ensures at c.put.ensures)
