-- `splitting::take_off`: where the width does not fit, the difference wraps to more than the rest.
use Rattle.std.proofs.Common.{arith}
use Rattle.std.proofs.lemmas.Bool.Decides.{nat_tests}
use Rattle.analysis.specs.Parts.Doubling.{taken_off}
use Rattle.analysis.proofs.splitting.take_off.Goals as goal

pub returns : goal.returns
unfolding taken_off
returns c = grind (arith, nat_tests, c.min.ensures)
