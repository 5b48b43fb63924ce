-- `truth::compare_sets`: each arm knows its comparison, whose answers go by the three orders.
use mathlib.Core.Path.{◌≡◌}
use Rattle.signs.specs.Truth.{compare_sets}
use Rattle.signs.proofs.Answers.{by_order, compares_by}
use Rattle.signs.proofs.truth.compare_sets.Goals as goal
use Rattle.signs.proofs.truth.compare_sets.Goals.{After-may_exceed-less}

-- the answers that the three calls give, at the comparison
given : (c : After-may_exceed-less) → by_order c.args.comparison c.may_equal-equal.result c.may_exceed-greater.result c.may_exceed-less.result ≡ compare_sets c.args.comparison c.args.a c.args.b
given c =
    rw (c.may_equal-equal.ensures, c.may_exceed-greater.ensures, c.may_exceed-less.ensures)
    (compares_by c.args.comparison c.args.a c.args.b)

pub returns-in-Equal : goal.returns-in-Equal
returns-in-Equal c = rw c.in-Equal.is (rw c.in-Equal.is at (given (goal.at.returns-in-Equal c).After-may_exceed-less))

pub returns-in-Greater : goal.returns-in-Greater
returns-in-Greater c = rw c.in-Greater.is (rw c.in-Greater.is at (given (goal.at.returns-in-Greater c).After-may_exceed-less))

pub returns-in-AtLeast : goal.returns-in-AtLeast
returns-in-AtLeast c = rw c.in-AtLeast.is (rw c.in-AtLeast.is at (given (goal.at.returns-in-AtLeast c).After-may_exceed-less))
