-- The cycle of calls {`Machine::arith_negative`}: a part is lower than what it is a part of, so the measure is `bound`.
use Rattle.std.proofs.Common.{◌≡◌, ℕ, ◌<◌, [], arith}
use Rattle.program.specs.declared.ArithNode.{ArithNode}
use Rattle.program.proofs.Forms.{ArithParts}
use Rattle.program.proofs.Laws.{arith_lower}
use Rattle.analysis.proofs.evaluator.Machine.+arith_negative.Goals as goal
use Rattle.analysis.proofs.evaluator.Machine.+arith_negative.Goals.{After-arith_node-node}

-- a part in the same table may be asked about
lower : (t : ℕ) (c : After-arith_node-node t) {k : ArithNode} → c.arith_node-node.result ≡ k → ArithParts k → c.args.n < t
lower t c told p = omega (arith, arith_lower _ _ _ (c.arith_node-node.ensures []) told p)

pub arith_negative-requires : goal.arith_negative-requires
arith_negative-requires t c = (lower t (goal.at.arith_negative-requires t c).After-arith_node-node c.in-Element.is tt, c.requires)

pub arith_negative-requires-in-Operator : goal.arith_negative-requires-in-Operator
arith_negative-requires-in-Operator t c = (lower t (goal.at.arith_negative-requires-in-Operator t c).After-arith_node-node c.in-Operator.is tt, c.requires)

pub arith_negative-requires-else-arith_negative : goal.arith_negative-requires-else-arith_negative
arith_negative-requires-else-arith_negative t c =
    (lower t (goal.at.arith_negative-requires-else-arith_negative t c).After-arith_node-node c.in-Operator.is tt, c.requires)
