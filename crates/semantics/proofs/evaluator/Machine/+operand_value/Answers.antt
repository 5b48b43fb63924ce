-- The cycle of calls {`Machine::operand`, `Machine::value`}: a part is lower than what it is a part of, and an operand is asked before the value
-- of the same entry, so the measure is twice the entry, and one more for an operand.
use borrow.Author.Rules.{rules}
use Rattle.semantics.proofs.Coded.{tested}
use Rattle.semantics.proofs.Leaves.{below_most, leaf_tree, node_tree, element_tree, operator_tree}
use Rattle.semantics.proofs.Valued.{cell_valued, number_valued, variable_valued, element_valued, operator_left, operator_valued}
use Prim.Native.Nat.{ℕ}
use mir.Syntax.{w32}
use mir.Val.{SFits}
use mir.ValLaws.{to_z-of_z}
use Rattle.program.specs.Tree.{arith_made}
use Rattle.semantics.proofs.evaluator.Machine.+operand_value.Goals as goal
use Rattle.semantics.proofs.evaluator.Machine.+operand_value.Goals.{value-In-Number, value-After-node-what, value-In-Operator}

-- ---- operand

pub operand-returns-then-c-lt-MEMORY : goal.operand-returns-then-c-lt-MEMORY
operand-returns-then-c-lt-MEMORY t c graph =
    cell_valued _ (leaf_tree _ _ graph c.requires c.leaf_cell-c.ensures c.if-c-lt-MEMORY.true) c.cell_value.ensures

-- ---- value

-- a number has 32 bits
fits : (t : ℕ) (c : value-In-Number t) → SFits w32 c.in-Number.z
fits t c = search rules

pub value-returns-then-is_fault : goal.value-returns-then-is_fault
value-returns-then-is_fault t c graph =
    rw (operator_tree _ _ graph c.args.self.ordered c.requires c.node-what.ensures c.in-Operator.is)
    (operator_left _ _ (c.operand-a.ensures graph) (tested c.is_fault.ensures c.if-is_fault.true))

pub value-returns-in-Number : goal.value-returns-in-Number
unfolding arith_made
value-returns-in-Number t c graph =
    rw (node_tree _ _ graph (below_most _ _ c.args.self.ordered c.requires) c.node-what.ensures c.in-Number.is) (number_valued _ _ (rw (to_z-of_z w32 c.in-Number.z (fits t (goal.at.value-returns-in-Number t c).In-Number)) at c.value.ensures))

pub value-returns-in-Variable : goal.value-returns-in-Variable
unfolding arith_made
value-returns-in-Variable t c graph =
    rw (node_tree _ _ graph (below_most _ _ c.args.self.ordered c.requires) c.node-what.ensures c.in-Variable.is)
    (variable_valued _ _ (rw c.first_cell.ensures at c.cell_value.ensures))

pub value-returns-in-Element : goal.value-returns-in-Element
value-returns-in-Element t c graph =
    rw (element_tree _ _ graph c.args.self.ordered c.requires c.node-what.ensures c.in-Element.is)
    (element_valued _ _ (c.operand-v.ensures graph) c.element.ensures)

pub value-returns-else-is_fault : goal.value-returns-else-is_fault
value-returns-else-is_fault t c graph =
    rw (operator_tree _ _ graph c.args.self.ordered c.requires c.node-what.ensures c.in-Operator.is)
    (operator_valued _ _ (c.operand-a.ensures graph) (c.operand-b.ensures graph) c.operate.ensures)
