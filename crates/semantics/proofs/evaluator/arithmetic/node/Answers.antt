-- `evaluator::arithmetic::node`: an entry's first three numbers.
use Rattle.program.specs.Kind.{arith_kind}
use Rattle.program.specs.Parts.Prepared.{numbers_at, arith_in}
use Rattle.semantics.proofs.evaluator.arithmetic.node.Goals as goal

pub returns : goal.returns
unfolding arith_in arith_kind numbers_at
returns c = c.arith_kind.ensures
