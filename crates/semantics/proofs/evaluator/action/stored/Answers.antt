-- `evaluator::action::stored`: a fault, or a number of 32 bits.
use mathlib.Core.Path.{◌≡◌}
use mathlib.Core.Bool.{false}
use Rattle.semantics.specs.Action.{store_to}
use Rattle.semantics.proofs.Coded.{is_fault, tested, passed, fault_evaluated, number_evaluated}
use Rattle.semantics.proofs.evaluator.action.stored.Goals as goal
use Rattle.semantics.proofs.evaluator.action.stored.Goals.{Else-is_fault}

pub failure-requires : goal.failure-requires
failure-requires c = tested c.is_fault.ensures c.if-is_fault.true

pub returns-then-is_fault : goal.returns-then-is_fault
unfolding store_to
returns-then-is_fault c = rw (fault_evaluated c.args.v (tested c.is_fault.ensures c.if-is_fault.true)) c.failure.ensures

no_fault : (c : Else-is_fault) → is_fault c.args.v ≡ false
no_fault c = tested c.is_fault.ensures c.if-is_fault.false

pub unpacked-requires : goal.unpacked-requires
unpacked-requires c = no_fault (goal.at.unpacked-requires c).Else-is_fault

pub returns : goal.returns
unfolding store_to
returns c = rw (passed c.unpacked.result c.unpacked.type_inv c.unpacked.ensures, number_evaluated c.args.v (no_fault (goal.at.returns c).Else-is_fault))
