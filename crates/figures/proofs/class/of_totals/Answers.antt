use Rattle.std.proofs.Common.{arith}
use Rattle.std.proofs.lemmas.Int.{ints, to_z-of_z}
use Rattle.figures.specs.Figures.{mean, variance, figures_of}
use Rattle.figures.proofs.Limits.{spread_small}
use native.Mathlib.Nat.{mul-pos, mul-le-mul}
use Rattle.figures.proofs.class.of_totals.Goals as goal

pub lowest-requires-2 : goal.lowest-requires-2
lowest-requires-2 c =
    (record {
      whole = omega (arith, ints, spread_small _ c.requires.bounded);
      some = mul-pos c.requires.some c.requires.some;
      narrow = omega (arith, mul-le-mul c.requires.bounded.few c.requires.bounded.few);
    })

pub returns : goal.returns
unfolding figures_of mean variance
returns c = grind (arith, to_z-of_z)
