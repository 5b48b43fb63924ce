-- `membership::agreeing`: the loop counts the bytes that agree.
use Rattle.std.proofs.Common.{◌≡◌, ◌≤◌, take, drop}
use Rattle.analysis.specs.Parts.Membership as spec
use Rattle.analysis.proofs.membership.agreeing.Given as goal

abbrev pub invariant-loop-i : goal.invariant-loop-i
invariant-loop-i l = (l.count ≡ spec.agreeing (take l.names (drop l.at l.bytes)) l.rho l.i) × (l.count ≤ l.i)
