-- Document 01's worked examples on numbers and signs hold of the definitions, by computation.
use lib.Dec.{T}
use Rattle.signs.specs.Case.{all_hold}
use Rattle.signs.specs.Examples.{cases}
use Rattle.signs.proofs.Open.{definitions}

pub claim : T (all_hold cases)
unfolding definitions
claim = tt
