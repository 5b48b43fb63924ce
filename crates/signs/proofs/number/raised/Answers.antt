-- `number::raised`: a negative exponent is tested first, and the shortened one gives the same value.
use mathlib.Core.Path.{◌≡◌, sym, ◌∙◌}
use mathlib.Core.Bool.{false}
use lib.IntN.{pos, nat_abs}
use lib.Signed.{lt_z}
use mir.Facts.{sfits_lit}
use mir.Syntax.{w32}
use mir.ValLaws.{to_z-of_z}
use Rattle.signs.proofs.Power.{power_shortened, raised_natural}
use Rattle.signs.proofs.Signed.{less}
use Rattle.signs.proofs.number.raised.Goals as goal
use Rattle.signs.proofs.number.raised.Goals.{Else-b-lt0}

not_negative : (c : Else-b-lt0) → lt_z c.args.b (pos 0) ≡ false
not_negative c = less w32 c.args.b (pos 0) c.ranges.b (sfits_lit tt) c.if-b-lt0.false

pub returns-else-b-lt0 : goal.returns-else-b-lt0
returns-else-b-lt0 c =
    let n = to_z-of_z w32 c.args.b c.ranges.b in
    c.repeated.ensures
    ∙ rw (c.enough.ensures, to_z-of_z w32 c.args.a c.ranges.a, n) (power_shortened c.args.a (nat_abs c.args.b))
    ∙ sym (raised_natural c.args.a c.args.b (not_negative (goal.at.returns-else-b-lt0 c).Else-b-lt0))
