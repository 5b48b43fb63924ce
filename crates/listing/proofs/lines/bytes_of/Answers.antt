-- `lines::bytes_of`: a product of numbers of 16 bits fits 64.
use mathlib.Core.Path.{refl}
use Prim.Native.Nat.{◌+◌, ◌*◌, ◌≤◌}
use native.Mathlib.Nat.{mul-le-mul}
use native.Mathlib.Omega.{arith}
use Rattle.listing.proofs.lines.bytes_of.Goals as goal
use Rattle.listing.proofs.lines.bytes_of.Goals.{Start}

small : (s : Start) → (2 + s.args.names) * s.args.count ≤ 4294967295
small s =
    let wide : 2 + s.args.names ≤ 65537 = omega (arith, s.ranges.names.fits) in
    let many : s.args.count ≤ 65535 = omega (arith, s.ranges.count.fits) in
    mul-le-mul wide many

pub overflow_mul-result : goal.overflow_mul-result
overflow_mul-result c = record { fits = omega (arith, small (goal.at.overflow_mul-result c).Start) }

pub returns : goal.returns
returns c = (refl, small (goal.at.returns c).Start)
