-- `sets::removed`: what was added can be taken off.
use Rattle.signs.proofs.Membership.{taken_off_lem}
use Rattle.signs.proofs.sets.removed.Goals as goal

pub overflow_sub-result : goal.overflow_sub-result
overflow_sub-result c = rw (c.single.ensures, c.added.ensures) (taken_off_lem c.args.s c.args.set).0

pub returns : goal.returns
returns c = rw (c.single.ensures, c.added.ensures) (taken_off_lem c.args.s c.args.set).1
