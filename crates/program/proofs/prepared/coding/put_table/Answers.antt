-- `program::prepared::coding::put_table` meets its contract.
use mathlib.Core.Path.{refl}
use native.Mathlib.Omega.{arith}
use Rattle.program.proofs.Copying.{copied_next}
use Rattle.program.proofs.prepared.coding.put_table.Goals as goal

pub loop-n-preserved : goal.loop-n-preserved
loop-n-preserved c =
    let l = c.loop-n in
    rw c.put_entry.ensures (copied_next _ _ _ _ l.n _ _ refl refl refl (omega arith) l.invariant)
