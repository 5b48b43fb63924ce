-- `Machine::store_element`: the index's fault, or the value of a whole tree into the element's cell.
use mathlib.Core.Path.{◌≡◌, refl}
use mathlib.Core.Bool.{false}
use mathlib.Core.List.{[]}
use Rattle.program.specs.Parts.Prepared.{entries_in}
use Rattle.program.specs.Tree.{arith_at}
use Rattle.semantics.specs.Action.{after, is_defined}
use Rattle.semantics.proofs.Coded.{is_fault, tested}
use Rattle.semantics.proofs.Effects.{index_effect, store_effect, performs}
use Rattle.semantics.proofs.evaluator.Machine.store_element.Goals as goal
use Rattle.semantics.proofs.evaluator.Machine.store_element.Goals.{Else-is_fault}

pub returns-then-is_fault : goal.returns-then-is_fault
unfolding after is_defined
returns-then-is_fault c graph =
    let fault = tested c.is_fault.ensures c.if-is_fault.true in
    performs (index_effect _ _ (c.store_index-k.ensures graph) fault) (record { defined = refl; memory = refl })

inside : (c : Else-is_fault) → is_fault c.store_index-k.result ≡ false
inside c = tested c.is_fault.ensures c.if-is_fault.false

pub index-requires : goal.index-requires
index-requires c =
    ((c.store_index-k.ensures []).below (inside (goal.at.index-requires c).Else-is_fault)).0

pub shifted-requires : goal.shifted-requires
shifted-requires c =
    rw c.index.ensures ((c.store_index-k.ensures []).below (inside (goal.at.shifted-requires c).Else-is_fault)).1

pub returns : goal.returns
returns c graph =
    let sum = rw (c.first_cell.ensures, c.index.ensures) at c.shifted.ensures in
    performs
    (store_effect c.args.x (arith_at (entries_in c.args.self.code.now graph) c.args.a) (c.store_index-k.ensures graph) (inside (goal.at.returns c).Else-is_fault)
    (c.any_operand-v.ensures graph) sum)
    c.put.ensures
