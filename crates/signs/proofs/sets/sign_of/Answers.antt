-- `sets::sign_of`: the two tests settle the sign.
use lib.IntN.{pos}
use mir.Syntax.{w32}
use mir.Facts.{sfits_lit}
use Rattle.signs.proofs.Signed.{less}
use Rattle.signs.proofs.Signs.{minus, plus, neither}
use Rattle.signs.proofs.sets.sign_of.Goals as goal

pub returns-then-z-lt0 : goal.returns-then-z-lt0
returns-then-z-lt0 c = minus c.args.z (less w32 c.args.z (pos 0) c.ranges.z (sfits_lit tt) c.if-z-lt0.true)

pub returns-then-z-gt0 : goal.returns-then-z-gt0
returns-then-z-gt0 c =
    plus c.args.z (less w32 (pos 0) c.args.z (sfits_lit tt) c.ranges.z c.if-z-gt0.true)

pub returns-else-z-gt0 : goal.returns-else-z-gt0
returns-else-z-gt0 c =
    neither c.args.z
    (less w32 c.args.z (pos 0) c.ranges.z (sfits_lit tt) c.if-z-lt0.false)
    (less w32 (pos 0) c.args.z (sfits_lit tt) c.ranges.z c.if-z-gt0.false)
