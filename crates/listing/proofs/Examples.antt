-- The examples hold, byte by byte, by computation.
use lib.Dec.{T}
use Rattle.signs.specs.Case.{all_hold}
use Rattle.listing.specs.Examples.{cases}
use Rattle.listing.proofs.Open.{definitions}

pub claim : T (all_hold cases)
unfolding definitions
claim = tt
