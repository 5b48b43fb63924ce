-- `prepared::edge_word` meets its contract.
use borrow.Author.Tests.{lt-ltb, le-ltb}
use Rattle.program.specs.Parts.Prepared.{edge_in}
use Rattle.program.proofs.prepared.edge_word.Goals as goal

pub returns-then-e-lt-NONE : goal.returns-then-e-lt-NONE
unfolding edge_in
returns-then-e-lt-NONE c = rw (lt-ltb _ _ c.if-e-lt-NONE.true)

pub returns-else-e-lt-NONE : goal.returns-else-e-lt-NONE
unfolding edge_in
returns-else-e-lt-NONE c = rw (le-ltb _ _ c.if-e-lt-NONE.false)
