-- `number::quotient`: the divisor is tested first, so the division is defined, and its result fits 64 bits.
use mathlib.Core.Path.{sym, ap, ◌∙◌}
use lib.Signed.{quot_z}
use mir.Syntax.{w32}
use mir.ValLaws.{to_z-of_z}
use Rattle.signs.proofs.Signed.{widens, wide_fits, wide_result, quotient_fits, zero_bits, no_bits, some_bits}
use Rattle.signs.specs.Number.{quotient, equal, exact}
use Rattle.signs.proofs.number.quotient.Goals as goal

pub overflow_cast-a : goal.overflow_cast-a
overflow_cast-a c = widens c.args.a c.ranges.a

pub overflow_cast-b : goal.overflow_cast-b
overflow_cast-b c = widens c.args.b c.ranges.b

pub nonzero_div-a : goal.nonzero_div-a
nonzero_div-a c =
    (rw (to_z-of_z w32 c.args.b c.ranges.b) (some_bits c.args.b c.ranges.b c.if-b-eq0.false), wide_fits quot_z c.ranges.a c.ranges.b (quotient_fits c.ranges.a c.ranges.b))

pub returns-then-b-eq0 : goal.returns-then-b-eq0
unfolding quotient equal
returns-then-b-eq0 c = sym (ap (quotient c.args.a) (zero_bits c.args.b c.ranges.b c.if-b-eq0.true))

pub returns-else-b-eq0 : goal.returns-else-b-eq0
unfolding quotient
returns-else-b-eq0 c =
    rw (no_bits c.args.b c.if-b-eq0.false)
    (c.exact.ensures ∙ ap exact (wide_result quot_z c.ranges.a c.ranges.b (quotient_fits c.ranges.a c.ranges.b)))
