-- The cycle of calls {`Machine::operand`, `Machine::signs`}: a part is lower than what it is a part of, and an operand is asked before the set
-- of the same entry, so the measure is twice `bound`, and one more for an operand.
use Rattle.std.proofs.Common.{[], arith, ◌≡◌, ℕ, ◌+◌, ◌*◌, ◌<◌}
use Rattle.program.proofs.Laws.{arith_lower}
use Rattle.program.specs.declared.ArithNode.{ArithNode}
use Rattle.program.proofs.Forms.{ArithParts}
use Rattle.analysis.proofs.evaluator.Machine.+operand_signs.Goals as goal
use Rattle.analysis.proofs.evaluator.Machine.+operand_signs.Goals.{signs-After-arith_node-node}

-- an index is lower than its element
pub operand-signs-index-requires : goal.operand-signs-index-requires
operand-signs-index-requires t c =
    (omega (arith, arith_lower _ _ _ (c.arith_node-node.ensures []) c.in-Element.is tt), c.requires)

-- a part in the same table may be asked about
lower : (t : ℕ) (c : signs-After-arith_node-node t) {k : ArithNode} → c.arith_node-node.result ≡ k → ArithParts k → 2 * c.args.n + 1 < t
lower t c told p = omega (arith, arith_lower _ _ _ (c.arith_node-node.ensures []) told p)

pub signs-operand-index-requires : goal.signs-operand-index-requires
signs-operand-index-requires t c = (lower t (goal.at.signs-operand-index-requires t c).After-arith_node-node c.in-Element.is tt, c.requires)

pub signs-operand-a-requires : goal.signs-operand-a-requires
signs-operand-a-requires t c = (lower t (goal.at.signs-operand-a-requires t c).After-arith_node-node c.in-Operator.is tt, c.requires)

pub signs-operand-b-requires : goal.signs-operand-b-requires
signs-operand-b-requires t c = (lower t (goal.at.signs-operand-b-requires t c).After-arith_node-node c.in-Operator.is tt, c.requires)
