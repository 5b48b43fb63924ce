-- `prepared::first_cell` meets its contract.
use borrow.Author.Tests.{lt-ltb, le-ltb}
use Rattle.program.specs.Parts.Prepared.{cell_in}
use Rattle.program.proofs.prepared.first_cell.Goals as goal

pub returns-then-x-lt-NAMES_MOST : goal.returns-then-x-lt-NAMES_MOST
unfolding cell_in
returns-then-x-lt-NAMES_MOST c = rw (lt-ltb _ _ c.if-x-lt-NAMES_MOST.true)

pub returns-else-x-lt-NAMES_MOST : goal.returns-else-x-lt-NAMES_MOST
unfolding cell_in
returns-else-x-lt-NAMES_MOST c = rw (le-ltb _ _ c.if-x-lt-NAMES_MOST.false)
