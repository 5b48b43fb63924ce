-- `judging::offending`: the offending record on the construction where none is named.
use Rattle.analysis.proofs.judging.offending.Goals as goal

pub returns : goal.returns
returns c = rw c.unnamed.ensures at c.offending_on.ensures
