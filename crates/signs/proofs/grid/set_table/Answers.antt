-- `grid::set_table`: the one test over the whole table. antt computes the definition's 320 unions, and the array has them.
use mathlib.Core.Path.{refl}
use Rattle.signs.proofs.Open.{definitions}
use Rattle.signs.proofs.grid.set_table.Goals as goal

pub returns : goal.returns
unfolding definitions
returns c =
    refl
