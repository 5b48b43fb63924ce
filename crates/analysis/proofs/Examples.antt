-- Document 01's worked examples, all of them, hold of the definitions, by computation.
use Rattle.std.proofs.Common.{T}
use Rattle.signs.specs.Case.{all_hold}
use Rattle.analysis.specs.Examples.{cases}
use Rattle.analysis.proofs.Open.{definitions}

pub claim : T (all_hold cases)
unfolding definitions
claim = tt
