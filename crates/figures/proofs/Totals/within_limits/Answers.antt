-- `Totals::within_limits`: the tests are those of the definition, whichever of them fails.
use Rattle.std.proofs.Common.{arith}
use Rattle.std.proofs.lemmas.Int.{ints}
use Rattle.std.proofs.lemmas.Grind.{common_steps}
use Rattle.figures.proofs.Totals.within_limits.Goals as goal
use Rattle.figures.proofs.Totals.within_limits.Goals.{then-number-self, else-number-self, then-self-number, else-self-number}

pub returns-else-self-ge0 : goal.returns-else-self-ge0
returns-else-self-ge0 c = elim c.if-self-number.branch [
  | then-self-number w ↦ elim c.if-number-self.branch [ then-number-self v ↦ grind (arith, ints, common_steps) | else-number-self v ↦ grind (arith, ints, common_steps) ]
  | else-self-number w ↦ elim c.if-number-self.branch [ then-number-self v ↦ grind (arith, ints, common_steps) | else-number-self v ↦ grind (arith, ints, common_steps) ]
]
