-- `evaluator::earlier` meets its contract.
use Rattle.semantics.specs.Parts.Coding.{earlier}
use Rattle.semantics.proofs.Coded.{tested}
use Rattle.semantics.proofs.evaluator.earlier.Goals as goal

pub returns-then-is_fault : goal.returns-then-is_fault
unfolding earlier
returns-then-is_fault c =
    rw (tested c.is_fault.ensures c.if-is_fault.true)

pub returns-else-is_fault : goal.returns-else-is_fault
unfolding earlier
returns-else-is_fault c =
    rw (tested c.is_fault.ensures c.if-is_fault.false)
