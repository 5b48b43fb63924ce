-- The worked examples on files and graphs hold of the definitions, by computation.
use lib.Dec.{T}
use Rattle.signs.specs.Case.{all_hold}
use Rattle.program.specs.Examples.{cases}
use Rattle.program.proofs.Open.{definitions}

pub claim : T (all_hold cases)
unfolding definitions
claim = tt
