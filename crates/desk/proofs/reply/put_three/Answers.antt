-- `reply::put_three`: three numbers in the place of as many, and each is read back.
use Rattle.std.proofs.lemmas.Int.{to_z-of_z}
use Rattle.std.proofs.Common.{arith}
use Rattle.desk.specs.Reply.{over_at}
use Rattle.desk.proofs.reply.put_three.Goals as goal

pub returns : goal.returns
unfolding over_at
returns c =
    grind (arith, to_z-of_z)
