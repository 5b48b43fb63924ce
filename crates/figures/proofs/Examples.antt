-- The worked figures hold of the definitions, by computation.
use lib.Dec.{T}
use Rattle.signs.specs.Case.{all_hold}
use Rattle.figures.specs.Examples.{cases}
use Rattle.figures.proofs.Open.{definitions}

pub claim : T (all_hold cases)
unfolding definitions
claim = tt
