-- `membership::put_factors`: the factors passed are there.
use Rattle.analysis.proofs.Hashes.{Putting}
use Rattle.analysis.proofs.membership.put_factors.Given as goal

abbrev pub invariant-loop-entry : goal.invariant-loop-entry
invariant-loop-entry l = Putting l.entry-items l.factor l.entry-index
