-- `evaluator::both`: the earlier fault, else both truth values.
use mathlib.Core.Path.{◌≡◌, sym, ◌∙◌}
use mathlib.Core.Bool.{false}
use Rattle.semantics.proofs.Coded.{is_fault, tested, tested_as, conjoin_fault, no_faults, conjoin_true, conjoin_false}
use Rattle.semantics.proofs.evaluator.both.Goals as goal
use Rattle.semantics.proofs.evaluator.both.Goals.{Else-is_fault}

pub returns-then-is_fault : goal.returns-then-is_fault
returns-then-is_fault c =
    rw c.earlier-fault.ensures
    (conjoin_fault _ _ (tested_as c.earlier-fault.ensures c.is_fault.ensures c.if-is_fault.true))

-- neither is a fault
none : (c : Else-is_fault) → (is_fault c.args.a ≡ false) × (is_fault c.args.b ≡ false)
none c = no_faults _ _ (tested_as c.earlier-fault.ensures c.is_fault.ensures c.if-is_fault.false)

pub returns-then-is_true : goal.returns-then-is_true
returns-then-is_true c =
    conjoin_true _ _ (none (goal.at.returns-then-is_true c).Else-is_fault).0 (none (goal.at.returns-then-is_true c).Else-is_fault).1 (tested c.is_true.ensures c.if-is_true.true)

pub returns-else-is_true : goal.returns-else-is_true
returns-else-is_true c =
    c.truth.ensures
    ∙ sym (conjoin_false c.args.a c.args.b (none (goal.at.returns-else-is_true c).Else-is_fault).0 (none (goal.at.returns-else-is_true c).Else-is_fault).1 (tested c.is_true.ensures c.if-is_true.false))
