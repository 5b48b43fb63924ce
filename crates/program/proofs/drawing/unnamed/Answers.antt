-- `program::drawing::unnamed` meets its contract.
use mathlib.Core.Path.{refl}
use Rattle.program.specs.Graph.{unnamed}
use Rattle.program.proofs.drawing.unnamed.Goals as goal

pub returns : goal.returns
unfolding unnamed
returns c =
    refl
