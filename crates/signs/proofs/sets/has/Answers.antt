-- `sets::has` divides by a number that is not 0: the set of one sign.
use Rattle.signs.proofs.Signs.{single_positive}
use Rattle.signs.specs.Sign.{has}
use Rattle.signs.proofs.sets.has.Goals as goal

pub nonzero_div-result : goal.nonzero_div-result
nonzero_div-result c = rw c.single.ensures (single_positive c.args.s)

pub returns : goal.returns
unfolding has
returns c = rw c.single.ensures
