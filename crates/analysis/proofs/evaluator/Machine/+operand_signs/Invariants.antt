-- A part is lower than what it is a part of, and an operand is asked before the set of the same entry.
use Rattle.std.proofs.Common.{◌+◌, ◌*◌}
use Rattle.analysis.proofs.evaluator.Machine.+operand_signs.Given as goal

abbrev pub decreases-operand : goal.decreases-operand
decreases-operand l = 2 * l.bound + 1

abbrev pub decreases-signs : goal.decreases-signs
decreases-signs l = 2 * l.bound
