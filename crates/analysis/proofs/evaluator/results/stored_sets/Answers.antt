-- `evaluator::results::stored_sets` meets its contract.
use Rattle.analysis.specs.Results.{stored_sets}
use Rattle.analysis.proofs.Digits.{three_before, each_member}
use Rattle.analysis.proofs.evaluator.results.stored_sets.Goals as goal

pub returns : goal.returns
unfolding stored_sets
returns c =
    rw (each_member, ← three_before c.stored_sign-minus.ensures c.stored_sign-zero.ensures c.stored_sign-plus.ensures) c.of_name.ensures
