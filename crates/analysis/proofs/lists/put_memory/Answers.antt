-- `lists::put_memory`: the copied part is the memory's.
use Rattle.std.proofs.Common.{◌≡◌, ◌+◌, ◌-◌, arith, length-take-le}
use Rattle.program.specs.Drawing.{over}
use Rattle.program.specs.Parts.DrawingParts.{over_at}
use Rattle.analysis.proofs.lists.put_memory.Goals as goal

pub returns : goal.returns
unfolding over over_at
returns c =
    let a = c.args in
    let e : a.at + a.memory.names - a.at ≡ a.memory.names = omega arith in
    rw (e, c.copy_from_slice.ensures.after, length-take-le a.memory.names a.memory.rho.now (omega arith))
