-- `evaluator::action::passed`: a fault, true or false.
use Rattle.semantics.specs.Action.{pass}
use Rattle.semantics.proofs.Coded.{tested, fault_decided, truth_decided, one_decided}
use Rattle.semantics.proofs.evaluator.action.passed.Goals as goal
use Rattle.semantics.proofs.evaluator.action.passed.Goals.{Else-is_fault}

pub failure-requires : goal.failure-requires
failure-requires c = tested c.is_fault.ensures c.if-is_fault.true

pub returns-then-is_fault : goal.returns-then-is_fault
unfolding pass
returns-then-is_fault c = rw (fault_decided c.args.v (tested c.is_fault.ensures c.if-is_fault.true)) c.failure.ensures

pub returns-then-is_true : goal.returns-then-is_true
unfolding pass
returns-then-is_true c = rw (one_decided _ (tested c.is_true.ensures c.if-is_true.true))

pub returns-else-is_true : goal.returns-else-is_true
unfolding pass
returns-else-is_true c =
    rw (truth_decided c.args.v (tested c.is_fault.ensures c.if-is_fault.false), tested c.is_true.ensures c.if-is_true.false) c.undefined.ensures
