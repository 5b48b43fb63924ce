-- `Machine::assigned`: the value is that of a whole tree, and the cell the name's first.
use Rattle.semantics.proofs.Effects.{assign_effect}
use Rattle.semantics.proofs.evaluator.Machine.assigned.Goals as goal

pub returns : goal.returns
returns c graph =
    rw (rw c.first_cell.ensures at c.stored.ensures)
    (assign_effect c.args.x (c.any_value-v.ensures graph))
