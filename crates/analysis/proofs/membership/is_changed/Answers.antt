-- `membership::is_changed`: the node and the memory.
use Rattle.std.proofs.Common.{arith, rules}
use Rattle.analysis.proofs.Hashes.{changed_read}
use Rattle.analysis.proofs.membership.is_changed.Goals as goal

pub returns : goal.returns
returns c =
    let a = c.args in
    rw (c.from_be_bytes-node.ensures, c.memory_changed.ensures)
    (changed_read a.bytes.now a.at a.memory.names c.requires (λ i h. omega (arith, c.shared_slice_known-1.given i)) a.memory.rho.now a.change (search rules))
