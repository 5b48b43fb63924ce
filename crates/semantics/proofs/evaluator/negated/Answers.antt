-- `evaluator::negated`: a fault is handed on, and true and false change places.
use mathlib.Core.Path.{sym, ◌∙◌}
use Rattle.semantics.proofs.Coded.{tested, negate_fault, negate_truth}
use Rattle.semantics.proofs.evaluator.negated.Goals as goal

pub returns-then-is_fault : goal.returns-then-is_fault
returns-then-is_fault c = negate_fault c.args.a (tested c.is_fault.ensures c.if-is_fault.true)

pub returns : goal.returns
returns c = c.truth.ensures ∙ sym (negate_truth c.args.a (tested c.is_fault.ensures c.if-is_fault.false) (sym c.is_true.ensures))
