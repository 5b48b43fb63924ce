-- The text in the place of as many bytes.
use mathlib.Core.Path.{◌≡◌, refl}
use Prim.Native.Nat.{◌+◌, ◌-◌}
use lib.ListN.{length}
use native.Mathlib.Omega.{arith}
use Rattle.program.specs.Drawing.{over}
use Rattle.program.specs.Parts.DrawingParts.{over_at}
use Rattle.listing.proofs.text.put.Goals as goal

pub returns : goal.returns
unfolding over over_at
returns c =
    let as_many : c.args.at + length c.args.text.now - c.args.at ≡ length c.args.text.now = omega arith in
    record { place = refl; bytes = rw (c.copy_from_slice.ensures.after, as_many) }
