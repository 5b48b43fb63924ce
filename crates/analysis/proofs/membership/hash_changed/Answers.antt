-- `membership::hash_changed`: of the changed memory's weight.
use Rattle.std.proofs.Common.{◌∙◌, arith}
use Rattle.analysis.proofs.Hashes.{hash_changed}
use Rattle.analysis.proofs.membership.hash_changed.Goals as goal

pub returns : goal.returns
returns c =
    let f = c.requires in
    c.hash.ensures
    ∙ rw (f.each 0 (omega arith), f.each 1 (omega arith), c.changed_weight.ensures.value)
    (hash_changed c.args.memory.names c.args.memory.rho.now c.args.change (omega (arith, c.args.memory.weighed.front)))
