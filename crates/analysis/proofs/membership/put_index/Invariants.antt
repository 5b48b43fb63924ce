-- `membership::put_index`: the records passed are in their chains.
use Rattle.std.proofs.Common.{◌+◌}
use Rattle.analysis.specs.Parts.Membership.{Indexed}
use Rattle.analysis.proofs.membership.put_index.Given as goal

abbrev pub invariant-loop-k : goal.invariant-loop-k
invariant-loop-k l = Indexed (2 + l.names) l.bytes l.k l.index
