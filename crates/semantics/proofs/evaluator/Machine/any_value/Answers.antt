-- `Machine::any_value`: past the last entry there is the number 0.
use native.Mathlib.Omega.{arith}
use Rattle.semantics.proofs.Leaves.{past_tree}
use Rattle.semantics.proofs.Valued.{past_valued}
use Rattle.semantics.proofs.evaluator.Machine.any_value.Goals as goal

pub returns : goal.returns
returns c graph = past_valued _ (λ ns coded. past_tree _ _ graph coded (omega (arith, c.if-n-arithmetic_count.false, c.arithmetic_count.ensures))) c.value-2.ensures
