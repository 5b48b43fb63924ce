-- `program::prepared::linking::clear`: what the library's `fill` leaves.
use Rattle.program.proofs.Threads.{cleared}
use Rattle.program.proofs.prepared.linking.clear.Goals as goal

pub returns : goal.returns
returns c = cleared _ _ c.requires (c.fill.ensures.after (λ y e. e))
