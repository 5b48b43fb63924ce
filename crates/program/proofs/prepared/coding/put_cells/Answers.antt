-- `program::prepared::coding::put_cells` meets its contract.
use borrow.Author.Rules.{rules}
use mathlib.Core.Path.{refl}
use Rattle.program.proofs.Codes.{cells_next}
use Rattle.program.proofs.prepared.coding.put_cells.Goals as goal

pub loop-n-preserved : goal.loop-n-preserved
loop-n-preserved c =
    let l = c.loop-n in
    cells_next _ l.n _ (search rules) c.fourth.ensures refl l.invariant
