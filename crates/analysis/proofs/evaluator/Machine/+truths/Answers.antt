-- The cycle of calls {`Machine::truths`}: a part is lower than what it is a part of, so the measure is `bound`.
use Rattle.std.proofs.Common.{◌≡◌, ℕ, ◌<◌, [], arith}
use Rattle.program.specs.declared.BooleanNode.{BooleanNode}
use Rattle.program.proofs.Forms.{BooleanParts}
use Rattle.program.proofs.Laws.{boolean_lower}
use Rattle.analysis.proofs.evaluator.Machine.+truths.Goals as goal
use Rattle.analysis.proofs.evaluator.Machine.+truths.Goals.{After-boolean_node-node}

-- a part in the same table may be asked about
lower : (t : ℕ) (c : After-boolean_node-node t) {k : BooleanNode} → c.boolean_node-node.result ≡ k → BooleanParts k → c.args.n < t
lower t c told p = omega (arith, boolean_lower _ _ _ (c.boolean_node-node.ensures []) told p)

pub truths-a-requires : goal.truths-a-requires
truths-a-requires t c = (lower t (goal.at.truths-a-requires t c).After-boolean_node-node c.in-Both.is tt, c.requires)

pub truths-b-requires : goal.truths-b-requires
truths-b-requires t c = (lower t (goal.at.truths-b-requires t c).After-boolean_node-node c.in-Both.is tt, c.requires)

pub truths-a-requires-in-AndThen : goal.truths-a-requires-in-AndThen
truths-a-requires-in-AndThen t c = (lower t (goal.at.truths-a-requires-in-AndThen t c).After-boolean_node-node c.in-AndThen.is tt, c.requires)

pub truths-b-requires-in-AndThen : goal.truths-b-requires-in-AndThen
truths-b-requires-in-AndThen t c = (lower t (goal.at.truths-b-requires-in-AndThen t c).After-boolean_node-node c.in-AndThen.is tt, c.requires)

pub truths-a-requires-in-Not : goal.truths-a-requires-in-Not
truths-a-requires-in-Not t c = (lower t (goal.at.truths-a-requires-in-Not t c).After-boolean_node-node c.in-Not.is tt, c.requires)
