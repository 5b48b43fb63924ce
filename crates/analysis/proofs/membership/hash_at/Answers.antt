-- `membership::hash_at`: of the record's node and its memory's weight.
use Rattle.std.proofs.Common.{◌∙◌, arith}
use Rattle.analysis.proofs.Hashes.{hash_read}
use Rattle.analysis.proofs.membership.hash_at.Goals as goal

pub returns : goal.returns
returns c =
    let a = c.args in
    let f = c.requires.0 in
    let w = c.weight.ensures in
    c.hash.ensures
    ∙ rw (f.each 0 (omega arith), f.each 1 (omega arith))
    (hash_read a.bytes.now a.at a.names c.requires.2 (λ i h. omega (arith, c.shared_slice_known-1.given i)) _ _ c.requires.1 w.weighed c.from_be_bytes-node.ensures)
