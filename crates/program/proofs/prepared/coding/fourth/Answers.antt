-- `program::prepared::coding::fourth` meets its contract.
use borrow.Author.Tests.{lt-ltb, le-ltb}
use mathlib.Core.Path.{sym}
use Rattle.program.specs.Parts.Prepared.{cell_in, leaf_cell}
use Rattle.program.proofs.Codes.{fourth_told}
use Rattle.program.proofs.prepared.coding.fourth.Goals as goal

pub returns-in-Number : goal.returns-in-Number
unfolding leaf_cell
returns-in-Number c = sym (fourth_told _ _ c.arith_at-node.ensures c.in-Number.is)

pub returns-then-x-lt-NAMES_MOST : goal.returns-then-x-lt-NAMES_MOST
unfolding cell_in leaf_cell
returns-then-x-lt-NAMES_MOST c =
    rw (fourth_told _ _ c.arith_at-node.ensures c.in-Variable.is, lt-ltb _ _ c.if-x-lt-NAMES_MOST.true)

pub returns-else-x-lt-NAMES_MOST : goal.returns-else-x-lt-NAMES_MOST
unfolding cell_in leaf_cell
returns-else-x-lt-NAMES_MOST c =
    rw (fourth_told _ _ c.arith_at-node.ensures c.in-Variable.is, le-ltb _ _ c.if-x-lt-NAMES_MOST.false)

pub returns-in-Element : goal.returns-in-Element
unfolding leaf_cell
returns-in-Element c = sym (fourth_told _ _ c.arith_at-node.ensures c.in-Element.is)

pub returns-in-Operator : goal.returns-in-Operator
unfolding leaf_cell
returns-in-Operator c = sym (fourth_told _ _ c.arith_at-node.ensures c.in-Operator.is)
