-- `reducing::gcd`: the loop keeps the greatest common divisor of its two numbers, and the second falls.
use borrow.Author.Rules.{rules}
use mathlib.Core.Path.{◌≡◌, sym, ap, ◌∙◌}
use Rattle.figures.specs.Fraction.{gcd}
use Rattle.figures.proofs.Divisors.{gcd_zero, gcd_step}
use Rattle.figures.proofs.reducing.gcd.Goals as goal

pub loop-y-preserved : goal.loop-y-preserved
loop-y-preserved c = sym (gcd_step c.loop-y.x c.loop-y.y (search rules)) ∙ c.loop-y.invariant

pub returns : goal.returns
returns c =
    let l = c.loop-y in
    let done : l.y ≡ 0 = search rules in
    sym (gcd_zero l.x) ∙ ap (gcd l.x) (sym done) ∙ l.invariant
