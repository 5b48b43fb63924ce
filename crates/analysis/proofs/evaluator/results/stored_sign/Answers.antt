-- `evaluator::results::stored_sign` meets its contract.
use Rattle.std.proofs.Common.{sym, refl, ◌∙◌, arith}
use Rattle.analysis.specs.Parts.Changing.{packed}
use Rattle.analysis.proofs.evaluator.results.stored_sign.Goals as goal

pub returns : goal.returns
unfolding packed
returns c = rw (sym c.has.ensures ∙ c.if-has.false) (record { packs = refl; few = omega arith })
