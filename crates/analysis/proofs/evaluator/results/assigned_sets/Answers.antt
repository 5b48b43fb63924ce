-- `evaluator::results::assigned_sets` meets its contract.
use Rattle.analysis.specs.Results.{assigned_sets}
use Rattle.analysis.proofs.Digits.{three_before, one_each}
use Rattle.analysis.proofs.evaluator.results.assigned_sets.Goals as goal

pub returns : goal.returns
unfolding assigned_sets
returns c =
    rw (one_each, ← three_before c.single-minus.ensures c.single-zero.ensures c.single-plus.ensures) c.of_name.ensures
