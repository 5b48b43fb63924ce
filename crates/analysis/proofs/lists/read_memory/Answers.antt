-- `lists::read_memory`: the bytes copied, and zeros past them.
use Rattle.std.proofs.Common.{◌≡◌, ◌+◌, ◌-◌, arith}
use Rattle.analysis.proofs.Laid.{copied}
use Rattle.analysis.proofs.lists.read_memory.Goals as goal

pub returns : goal.returns
returns c =
    let a = c.args in
    let e : a.at + a.names - a.at ≡ a.names = omega arith in
    rw (c.copy_from_slice.ensures.after, e) (copied a.bytes.now a.at a.names c.requires.0 c.requires.1)
