-- `membership::find`: the chain is followed down to the record sought.
use Rattle.std.proofs.Common.{ℕ, ◌+◌}
use Rattle.analysis.specs.Parts.Membership.{changed, Sought}
use Rattle.analysis.proofs.Chains.{Walked}
use Rattle.analysis.proofs.membership.find.Given as goal

abbrev pub invariant-loop-link : goal.invariant-loop-link
invariant-loop-link l =
    (n : ℕ) → Sought (2 + l.memory.names) l.bytes n l.index (changed l.memory.names l.memory.rho.now l.change) l.h → Walked (2 + l.memory.names) l.bytes n (changed l.memory.names l.memory.rho.now l.change) l.h l.link

abbrev pub decreases-loop-link : goal.decreases-loop-link
decreases-loop-link l = l.link
