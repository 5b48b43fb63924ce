-- `Machine::element_stored`: the index's fault, or the value of a whole tree in the element's cell.
use mathlib.Core.Path.{◌≡◌}
use mathlib.Core.Bool.{false}
use mathlib.Core.List.{[]}
use Rattle.program.specs.Parts.Prepared.{entries_in}
use Rattle.program.specs.Tree.{arith_at}
use Rattle.semantics.proofs.Coded.{is_fault, tested}
use Rattle.semantics.proofs.Effects.{index_effect, store_effect}
use Rattle.semantics.proofs.evaluator.Machine.element_stored.Goals as goal
use Rattle.semantics.proofs.evaluator.Machine.element_stored.Goals.{Else-is_fault}

pub returns-then-is_fault : goal.returns-then-is_fault
returns-then-is_fault c graph =
    let fault = tested c.is_fault.ensures c.if-is_fault.true in
    rw c.failure.ensures (index_effect _ _ (c.store_index-index.ensures graph) fault)

inside : (c : Else-is_fault) → is_fault c.store_index-index.result ≡ false
inside c = tested c.is_fault.ensures c.if-is_fault.false

pub index-requires : goal.index-requires
index-requires c =
    ((c.store_index-index.ensures []).below (inside (goal.at.index-requires c).Else-is_fault)).0

pub shifted-requires : goal.shifted-requires
shifted-requires c =
    rw c.index.ensures ((c.store_index-index.ensures []).below (inside (goal.at.shifted-requires c).Else-is_fault)).1

pub returns : goal.returns
returns c graph =
    let sum = rw (c.first_cell.ensures, c.index.ensures) at c.shifted.ensures in
    rw c.stored.ensures
    (store_effect c.args.x (arith_at (entries_in c.args.self.code.now graph) c.args.a) (c.store_index-index.ensures graph) (inside (goal.at.returns c).Else-is_fault)
    (c.any_operand-v.ensures graph) sum)
