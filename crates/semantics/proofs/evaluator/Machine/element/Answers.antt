-- `Machine::element`: the index's fault, or the cell of the element.
use mathlib.Core.Path.{◌≡◌, sym, ap, ◌∙◌}
use mathlib.Core.Bool.{false}
use native.Mathlib.Omega.{arith}
use Rattle.semantics.specs.Parts.Coding.{Indexed}
use Rattle.semantics.specs.Expression.{value_at}
use Rattle.semantics.proofs.Coded.{is_fault, tested, fault_evaluated, placed_fault, placed_at}
use Rattle.semantics.proofs.evaluator.Machine.element.Goals as goal
use Rattle.semantics.proofs.evaluator.Machine.element.Goals.{After-indexed-i, Else-is_fault}

-- the index, by the name's size
found : (c : After-indexed-i) → Indexed c.size_of.result c.args.v c.indexed-i.result
found c = c.indexed-i.ensures

pub returns-then-is_fault : goal.returns-then-is_fault
unfolding value_at
returns-then-is_fault c =
    let fault = tested c.is_fault.ensures c.if-is_fault.true in
    λ ns coded there.
    fault_evaluated _ fault
    ∙ ap (value_at _) (sym ((found (goal.at.returns-then-is_fault c).After-indexed-i).place ns c.args.x (sym (coded.size c.args.x there) ∙ sym c.size_of.ensures) ∙ placed_fault ns c.args.x c.indexed-i.result fault))

-- no fault
inside : (c : Else-is_fault) → is_fault c.indexed-i.result ≡ false
inside c = tested c.is_fault.ensures c.if-is_fault.false

pub returns : goal.returns
unfolding value_at
returns c =
    let cell = rw (c.first_cell.ensures, c.index.ensures) at c.cell_after.ensures in
    λ ns coded there.
    rw (coded.cell c.args.x there) at cell
    ∙ ap (value_at _) (sym ((found (goal.at.returns c).After-indexed-i).place ns c.args.x (sym (coded.size c.args.x there) ∙ sym c.size_of.ensures) ∙ placed_at ns c.args.x c.indexed-i.result (inside (goal.at.returns c).Else-is_fault)))

pub index-requires : goal.index-requires
index-requires c = (c.indexed-i.ensures.below (inside (goal.at.index-requires c).Else-is_fault)).0

pub cell_after-requires : goal.cell_after-requires
cell_after-requires c = rw c.index.ensures (omega (arith, (c.indexed-i.ensures.below (inside (goal.at.cell_after-requires c).Else-is_fault)).1))
