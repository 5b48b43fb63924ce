-- `Machine::comparison`: both sides are trees of the arithmetic table.
use Rattle.semantics.proofs.Valued.{comparison_holds}
use Rattle.semantics.proofs.evaluator.Machine.comparison.Goals as goal

pub returns : goal.returns
returns c graph k =
    comparison_holds k c.args.o (c.any_operand-a.ensures graph) (c.any_operand-b.ensures graph) c.compare.ensures
