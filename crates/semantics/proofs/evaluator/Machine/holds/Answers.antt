-- `Machine::holds`: a comparison, or whatever else `Machine::truth` works out.
use Rattle.program.specs.Tree.{boolean_made}
use Rattle.program.proofs.Laws.{boolean_told}
use Rattle.semantics.proofs.evaluator.Machine.holds.Goals as goal

pub returns-in-Comparison : goal.returns-in-Comparison
unfolding boolean_made
returns-in-Comparison c graph =
    rw (boolean_told _ _ _ (c.boolean_node-node.ensures graph) c.in-Comparison.is) (c.comparison.ensures graph _)

-- the check finds this one alone: it stands so that a wrong table is refused for what differs
pub returns-in_default : goal.returns-in_default
returns-in_default c graph = c.truth.ensures graph
