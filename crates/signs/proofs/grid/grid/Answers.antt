-- `grid::grid`: the three numbers are a place within the array, which is the definition's list.
use Prim.Native.Nat.{◌<◌}
use borrow.Author.Rules.{rules}
use Rattle.signs.proofs.Finite.{operator_below, sign_below}
use Rattle.signs.specs.Grid.{grids, grid}
use Rattle.signs.proofs.grid.grid.Goals as goal
use Rattle.signs.proofs.grid.grid.Goals.{After-sign_number-2}

pub bounds-grid_number : goal.bounds-grid_number
bounds-grid_number c = rw c.grid_number.ensures (operator_below _)

pub bounds-sign_number : goal.bounds-sign_number
bounds-sign_number c = rw c.sign_number.ensures (sign_below _)

pub bounds-sign_number-2 : goal.bounds-sign_number-2
bounds-sign_number-2 c = rw c.sign_number-2.ensures (sign_below _)

pub offset_bounds-grid_number : goal.offset_bounds-grid_number
offset_bounds-grid_number c = let below : c.grid_number.result < 5 = bounds-grid_number (goal.at.offset_bounds-grid_number c).After-sign_number-2 in search rules

pub offset_bounds-grid_number-sign_number : goal.offset_bounds-grid_number-sign_number
offset_bounds-grid_number-sign_number c = let below : c.sign_number.result < 3 = bounds-sign_number (goal.at.offset_bounds-grid_number-sign_number c).After-sign_number-2 in search rules

pub returns : goal.returns
unfolding grid grids
returns c = rw (c.grid_number.ensures, c.sign_number.ensures, c.sign_number-2.ensures)
