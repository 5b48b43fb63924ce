-- `stepping::copy_in`: the memory in front, then the numbers.
use Rattle.semantics.proofs.Padding.{placed}
use Rattle.semantics.proofs.stepping.copy_in.Goals as goal

pub returns : goal.returns
returns c ns coded = placed ns _ coded _ _ _ c.put_memory.ensures c.put_numbers.ensures
