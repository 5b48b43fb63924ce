-- `grid::operate_by`: what is at the place of the operator and the two sets, or 0 past the table's end.
use mathlib.Core.Path.{ap, sym}
use Prim.Native.Nat.{◌%◌, ◌<◌}
use native.Mathlib.Omega.{arith}
use lib.ListN.{get_or-eq_default}
use Rattle.signs.specs.Grid.{set_place, operate_by}
use Rattle.signs.proofs.Finite.{operator_below}
use Rattle.signs.proofs.grid.operate_by.Goals as goal
use Rattle.signs.proofs.grid.operate_by.Goals.{After-grid_number}

-- the operator is one of five
below : (c : After-grid_number) → c.grid_number.result < 5
below c = rw c.grid_number.ensures (operator_below _)

pub overflow_mul-at : goal.overflow_mul-at
overflow_mul-at c = record { fits = omega (arith, below (goal.at.overflow_mul-at c).After-grid_number) }

pub overflow_add-at : goal.overflow_add-at
overflow_add-at c = record { fits = omega (arith, below (goal.at.overflow_add-at c).After-grid_number) }

pub overflow_add-at-2 : goal.overflow_add-at-2
overflow_add-at-2 c = record { fits = omega (arith, below (goal.at.overflow_add-at-2 c).After-grid_number) }

pub returns-then-at-table : goal.returns-then-at-table
unfolding set_place operate_by
returns-then-at-table c = rw c.grid_number.ensures

pub returns : goal.returns
unfolding set_place operate_by
returns c = rw (← c.grid_number.ensures) (sym (ap (λ n. n % 256) (get_or-eq_default c.args.table.now 0 c.if-at-table.false)))
