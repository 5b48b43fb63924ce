-- `sets::unite` is the machine's `or`, of which three bits count.
use Rattle.signs.proofs.Membership.{unite_or}
use Rattle.signs.proofs.sets.unite.Goals as goal

pub returns : goal.returns
returns c =
    unite_or c.args.a c.args.b
