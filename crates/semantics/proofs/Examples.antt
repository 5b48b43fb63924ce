-- Document 01's worked examples on values, steps and runs hold of the definitions, by computation.
use lib.Dec.{T}
use Rattle.signs.specs.Case.{all_hold}
use Rattle.semantics.specs.Examples.{cases}
use Rattle.semantics.proofs.Open.{definitions}

pub claim : T (all_hold cases)
unfolding definitions
claim = tt
