-- `lists::put_changed`: the node, the memory and the changed byte, one over the other.
use Rattle.std.proofs.Common.{length-set, rules}
use Rattle.analysis.proofs.Laid.{wrote_changed, wrote_kept}
use Rattle.analysis.proofs.lists.put_changed.Goals as goal

pub returns-then-x-memory : goal.returns-then-x-memory
returns-then-x-memory c =
    let a = c.args in
    wrote_changed a.at a.memory.names a.memory.rho.now a.change a.memory.weighed.front a.buffer.now c.requires _ _ c.put_node.ensures c.put_memory.ensures c.if-x-memory.true

pub returns-else-x-memory : goal.returns-else-x-memory
returns-else-x-memory c =
    let a = c.args in
    wrote_kept a.at a.memory.names a.memory.rho.now a.change a.memory.weighed.front a.buffer.now c.requires _ _ c.put_node.ensures c.put_memory.ensures c.if-x-memory.false

pub shape_of-buffer-then-x-memory : goal.shape_of-buffer-then-x-memory
shape_of-buffer-then-x-memory c =
    simp length-set (search rules)
