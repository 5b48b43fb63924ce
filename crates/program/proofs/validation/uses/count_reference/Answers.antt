-- `program::validation::uses::count_reference` meets its contract.
use Prim.Native.Nat.{◌+◌, ◌<◌, min}
use lib.ListN.{get_or}
use mathlib.Core.Path.{◌≡◌, ap, ◌∙◌}
use native.Mathlib.Omega.{arith}
use Rattle.program.specs.Parts.Counting.{capacity, slot}
use Rattle.program.specs.Kind.{table_of}
use Rattle.program.specs.Questions.{refers_to}
use Rattle.program.specs.declared.Table.{Table}
use Rattle.program.proofs.Counting.{counted_one, counted_far, slot_small}
use Rattle.program.proofs.validation.uses.count_reference.Goals as goal
use Rattle.program.proofs.validation.uses.count_reference.Goals.{After-slot-k}

-- the slot is that of entry x of the sort's table, and there is one
below : (c : After-slot-k) → c.args.x < capacity (table_of c.args.sort)
below c = omega (arith, ap capacity c.table_of-table.ensures)

at : (c : After-slot-k) → c.slot-k.result ≡ slot (table_of c.args.sort) c.args.x
at c = c.slot-k.ensures ∙ ap (λ (u : Table). slot u c.args.x) c.table_of-table.ensures

there : (c : After-slot-k) → c.slot-k.result < 1024
there c = omega (arith, at c, slot_small (table_of c.args.sort) c.args.x (below c))

pub bounds-uses-k : goal.bounds-uses-k
bounds-uses-k c = there (goal.at.bounds-uses-k c).After-slot-k

pub bounds-uses-k-then-x-capacity : goal.bounds-uses-k-then-x-capacity
bounds-uses-k-then-x-capacity c = there (goal.at.bounds-uses-k-then-x-capacity c).After-slot-k

pub returns-then-x-capacity : goal.returns-then-x-capacity
unfolding refers_to
returns-then-x-capacity c =
    let a = c.args in
    let p = (goal.at.returns-then-x-capacity c).After-slot-k in
    let one : c.min.result ≡ min 2 (get_or a.uses.now c.slot-k.result 0 + 1) = omega (arith, c.saturating_add.ensures, c.min.ensures) in
    rw (one, at p) (counted_one a.uses.now (table_of a.sort) a.x (below p) (omega (arith, at p, there p, c.min.array_long)))

pub returns-else-x-capacity : goal.returns-else-x-capacity
unfolding refers_to
returns-else-x-capacity c =
    let a = c.args in
    counted_far a.uses.now (table_of a.sort) a.x (omega (arith, ap capacity c.table_of-table.ensures))
