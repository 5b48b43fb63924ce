-- `reducing::gcd`: the loop keeps the greatest common divisor of its two numbers, and the second falls.
use mathlib.Core.Path.{◌≡◌}
use Rattle.figures.specs.Fraction.{gcd}
use Rattle.figures.proofs.reducing.gcd.Given as goal

abbrev pub invariant-loop-y : goal.invariant-loop-y
invariant-loop-y l = gcd l.x l.y ≡ gcd l.a l.b

abbrev pub decreases-loop-y : goal.decreases-loop-y
decreases-loop-y l = l.y
