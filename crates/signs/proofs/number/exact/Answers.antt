-- `number::exact`: the two tests settle whether the number fits 32 bits.
use mathlib.Core.Path.{sym, ap, ◌∙◌}
use lib.IntN.{pos, negsuc}
use mir.Facts.{sfits_lit}
use mir.Syntax.{w32, w64}
use mir.Val.{SFits, to_z, of_z}
use mir.ValLaws.{to_z-of_z}
use Rattle.signs.proofs.Range.{exact_within, exact_outside, below, above, within}
use Rattle.signs.proofs.Signed.{less}
use Rattle.std.specs.Prelude.{Ok}
use Rattle.signs.proofs.number.exact.Goals as goal
use Rattle.signs.proofs.number.exact.Goals.{Else-z-gt2147483647}

fits : (c : Else-z-gt2147483647) → SFits w32 c.args.z
fits c =
    within c.args.z
    (less w64 c.args.z (negsuc 2147483647) c.ranges.z (sfits_lit tt) c.if-z-ltminus2147483648.false)
    (less w64 (pos 2147483647) c.args.z (sfits_lit tt) c.ranges.z c.if-z-gt2147483647.false)

pub returns-then-z-ltminus2147483648 : goal.returns-then-z-ltminus2147483648
returns-then-z-ltminus2147483648 c =
    sym (exact_outside c.args.z (below c.args.z (less w64 c.args.z (negsuc 2147483647) c.ranges.z (sfits_lit tt) c.if-z-ltminus2147483648.true)))

pub overflow_cast-result : goal.overflow_cast-result
overflow_cast-result c = rw (to_z-of_z w64 c.args.z c.ranges.z) (fits (goal.at.overflow_cast-result c).Else-z-gt2147483647)

pub returns-then-z-gt2147483647 : goal.returns-then-z-gt2147483647
returns-then-z-gt2147483647 c =
    sym (exact_outside c.args.z (above c.args.z (less w64 (pos 2147483647) c.args.z (sfits_lit tt) c.ranges.z c.if-z-gt2147483647.true)))

pub returns-else-z-gt2147483647 : goal.returns-else-z-gt2147483647
returns-else-z-gt2147483647 c =
    ap Ok (to_z-of_z w32 (to_z w64 (of_z w64 c.args.z)) (overflow_cast-result (goal.at.returns-else-z-gt2147483647 c).Else-z-gt2147483647) ∙ to_z-of_z w64 c.args.z c.ranges.z) ∙ sym (exact_within c.args.z (fits (goal.at.returns-else-z-gt2147483647 c).Else-z-gt2147483647))
