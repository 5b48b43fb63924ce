-- `reducing::lowest`: the divisor is the greatest common one, so it is positive and fits, and so do both quotients.
use Prim.Native.Nat.{◌/◌, ◌≤◌}
use mathlib.Core.Path.{◌≡◌, ap, ◌∙◌}
use native.Mathlib.Nat.{le_of_dvd, div-le_self}
use native.Mathlib.Omega.{arith}
use lib.IntN.{pos, nat_abs}
use lib.Signed.{quot_z}
use mir.Syntax.{w64}
use mir.Val.{SFits, to_z, of_z}
use mir.ValLaws.{to_z-of_z}
use Rattle.signs.proofs.Signed.{fits, quotient}
use Rattle.figures.specs.Fraction.{gcd, lowest}
use Rattle.figures.proofs.Divisors.{gcd_right, gcd_some}
use Rattle.std.proofs.lemmas.Int.{to_z_pos}
use Rattle.figures.proofs.reducing.lowest.Goals as goal
use Rattle.figures.proofs.reducing.lowest.Goals.{After-gcd-g}

-- the divisor that was found
divisor : (c : After-gcd-g) → c.gcd-g.result ≡ gcd (nat_abs c.args.z) c.args.d
divisor c =
    c.gcd-g.ensures
    ∙ ap (λ n. gcd n c.args.d) (c.unsigned_abs.ensures.value ∙ ap nat_abs (to_z-of_z w64 c.args.z c.ranges.z))

pub nonzero_div-result-2 : goal.nonzero_div-result-2
nonzero_div-result-2 c = rw (divisor (goal.at.nonzero_div-result-2 c).After-gcd-g) (gcd_some _ _ c.requires.some)

small : (c : After-gcd-g) → c.gcd-g.result ≤ c.args.d
small c = rw (divisor c) (le_of_dvd c.requires.some (gcd_right (nat_abs c.args.z) c.args.d))

pub overflow_cast-result : goal.overflow_cast-result
overflow_cast-result c = fits (pos c.gcd-g.result) (omega (arith, (small (goal.at.overflow_cast-result c).After-gcd-g), c.requires.narrow))

-- the numerator, as the machine divides
quotient_is : (c : After-gcd-g) → quot_z (to_z w64 (of_z w64 c.args.z)) (to_z w64 c.gcd-g.result) ≡ quot_z c.args.z (pos c.gcd-g.result)
quotient_is c = rw (to_z-of_z w64 c.args.z c.ranges.z, to_z-of_z w64 (pos c.gcd-g.result) (overflow_cast-result c))

quotient_fits : (c : After-gcd-g) → SFits w64 (quot_z (to_z w64 (of_z w64 c.args.z)) (to_z w64 c.gcd-g.result))
quotient_fits c =
    rw (quotient_is c)
    (fits (quot_z c.args.z (pos c.gcd-g.result))
    (omega (arith, quotient c.args.z (pos c.gcd-g.result), c.requires.whole)))

denominator_small : (c : After-gcd-g) → c.args.d / c.gcd-g.result ≤ 4611686018427387904
denominator_small c = omega (arith, div-le_self c.args.d c.gcd-g.result, c.requires.narrow)

pub returns : goal.returns
unfolding lowest
returns c =
    rw (to_z-of_z w64 _ (quotient_fits (goal.at.returns c).After-gcd-g), quotient_is (goal.at.returns c).After-gcd-g, to_z_pos w64 (c.args.d / c.gcd-g.result) (omega (arith, denominator_small (goal.at.returns c).After-gcd-g)), divisor (goal.at.returns c).After-gcd-g)

pub nonzero_div-result : goal.nonzero_div-result
nonzero_div-result c =
    (nonzero_div-result-2 (goal.at.nonzero_div-result c).After-gcd-g, quotient_fits (goal.at.nonzero_div-result c).After-gcd-g)
