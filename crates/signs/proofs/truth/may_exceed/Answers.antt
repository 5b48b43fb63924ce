-- `truth::may_exceed`: a positive left side or a negative right side settles it.
use Rattle.signs.proofs.Answers.{exceeds_by}
use Rattle.signs.proofs.truth.may_exceed.Goals as goal

pub returns : goal.returns
returns c = rw (c.has-plus.ensures, c.has-minus.ensures) (exceeds_by c.args.a c.args.b)
