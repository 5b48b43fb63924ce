-- `evaluator::results::stored` meets its contract.
use Rattle.std.proofs.Common.{ℕ, ◌+◌, ◌*◌, ap, ◌∙◌, arith}
use Rattle.analysis.specs.Parts.Changing.{packed}
use Rattle.analysis.specs.Results.{sets_with}
use Rattle.analysis.proofs.Digits.{three_before, one_each}
use Rattle.analysis.proofs.evaluator.results.stored.Goals as goal

pub returns : goal.returns
unfolding sets_with packed
returns c =
    rw (one_each, ← c.added.ensures)
    (record {
      packs = c.before-2.ensures.packs ∙ ap (λ (n : ℕ). n * 8 + c.added.result) (three_before c.replaced-minus.ensures c.replaced-zero.ensures c.replaced-plus.ensures);
      few = omega (arith, c.before-2.ensures.few, c.replaced-minus.ensures.few, c.replaced-zero.ensures.few, c.replaced-plus.ensures.few);
    })
