-- `truth::may_equal`: the sets have a sign in common.
use Rattle.signs.proofs.Answers.{equals_by}
use Rattle.signs.proofs.truth.may_equal.Goals as goal

pub returns : goal.returns
returns c =
    equals_by c.args.a c.args.b
