-- `membership::memory_changed`: by the number of bytes that agree.
use Rattle.std.proofs.Common.{◌≡◌, not, eqb, length, get_or, take, drop, arith, length-drop, length-take-le}
use Rattle.analysis.proofs.Agreeing.{same_past, same_changed}
use Rattle.analysis.proofs.Hashes.{part_at, bit_small}
use Rattle.analysis.proofs.membership.memory_changed.Goals as goal
use Rattle.analysis.proofs.membership.memory_changed.Goals.{Start}

-- the memory has all of its bytes
sized : (c : Start) → length (take c.args.memory.names (drop c.args.at c.args.bytes.now)) ≡ c.args.memory.names
sized c = length-take-le c.args.memory.names (drop c.args.at c.args.bytes.now) (omega (arith, c.requires, length-drop c.args.at c.args.bytes.now))

pub overflow_sub-wanted : goal.overflow_sub-wanted
overflow_sub-wanted c =
    let a = c.args in
    omega (arith, bit_small (not (eqb (get_or a.memory.rho.now a.x 0) a.set)), c.if-x-memory.true)

pub returns-then-x-memory : goal.returns-then-x-memory
returns-then-x-memory c =
    let a = c.args in
    let h = c.if-x-memory.true in
    rw (c.agreeing-count.ensures, ← part_at a.bytes.now a.at a.memory.names a.x h)
    (same_changed (take a.memory.names (drop a.at a.bytes.now)) a.memory.rho.now a.memory.names (sized (goal.at.returns-then-x-memory c).Start) (omega (arith, a.memory.weighed.front)) a.x a.set h)

pub returns : goal.returns
returns c =
    let a = c.args in
    rw c.agreeing-count.ensures
    (same_past (take a.memory.names (drop a.at a.bytes.now)) a.memory.rho.now a.memory.names (sized (goal.at.returns c).Start) (omega (arith, a.memory.weighed.front)) a.x a.set c.if-x-memory.false)
