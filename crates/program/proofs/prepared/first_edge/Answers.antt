-- `prepared::first_edge` meets its contract.
use borrow.Author.Tests.{lt-ltb, le-ltb}
use Rattle.program.specs.Parts.Prepared.{first_in}
use Rattle.program.proofs.prepared.first_edge.Goals as goal

pub returns-then-node-lt-NODES_MOST : goal.returns-then-node-lt-NODES_MOST
unfolding first_in
returns-then-node-lt-NODES_MOST c = rw (lt-ltb _ _ c.if-node-lt-NODES_MOST.true)

pub returns-else-node-lt-NODES_MOST : goal.returns-else-node-lt-NODES_MOST
unfolding first_in
returns-else-node-lt-NODES_MOST c = rw (le-ltb _ _ c.if-node-lt-NODES_MOST.false)
