-- `stepping::put_memory`: the cells copied are the memory's, and the others are still zero.
use Rattle.semantics.proofs.Padding.{fronted}
use Rattle.semantics.proofs.stepping.put_memory.Goals as goal

pub returns : goal.returns
returns c = rw (c.copy_from_slice.ensures.after, c.requires) (fronted _ _ c.min-end.ensures)
