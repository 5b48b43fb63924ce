-- `program::prepared::linking::link`: from the last edge on, each is put before those of its node.
use Prim.Native.Nat.{◌≤◌}
use Rattle.program.proofs.Threads.{Held}
use Rattle.program.proofs.prepared.linking.link.Given as goal

abbrev pub invariant-loop-e : goal.invariant-loop-e
invariant-loop-e l = (l.e ≤ l.n) × Held l.initial.graph l.e l.graph
