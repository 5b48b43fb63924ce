-- `program::decoding::signed` meets its contract.
use borrow.Author.Rules.{rules}
use borrow.Author.Tests.{lt-ltb, le-ltb}
use mathlib.Core.Path.{ap, ◌∙◌}
use native.Mathlib.Decide.{dec_le}
use native.Mathlib.Omega.{arith}
use lib.IntN.{negsuc}
use mir.Syntax.{w32}
use mir.ValLaws.{to_z-of_z}
use Rattle.program.specs.File.{signed32}
use Rattle.program.proofs.decoding.signed.Goals as goal

pub returns : goal.returns
unfolding signed32
returns c =
    let x = c.args.x in
    to_z-of_z w32 _ (search rules) ∙ c.cast_signed.ensures
    ∙ elim (dec_le 2147483648 x) [
      | yes h ↦ rw (le-ltb x 2147483648 h) (ap negsuc (omega arith))
      | no h ↦ rw (lt-ltb x 2147483648 (omega arith))
    ]
