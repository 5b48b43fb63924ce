-- A part is lower than what it is a part of, and an operand is asked before the value of the same entry.
use Prim.Native.Nat.{◌+◌, ◌*◌}
use Rattle.semantics.proofs.evaluator.Machine.+operand_value.Given as goal

abbrev pub decreases-operand : goal.decreases-operand
decreases-operand l = 2 * l.n + 1

abbrev pub decreases-value : goal.decreases-value
decreases-value l = 2 * l.n
