-- The calls on the factorial lesson tell what document 01 states, by computation.
use lib.Dec.{T}
use Rattle.signs.specs.Case.{all_hold}
use Rattle.desk.specs.Examples.{cases}
use Rattle.desk.proofs.Open.{definitions}

pub claim : T (all_hold cases)
unfolding definitions
claim = tt
