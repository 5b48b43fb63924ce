-- `membership::weight`: the loop adds the terms up.
use Rattle.std.proofs.Common.{◌≡◌, ◌*◌, ◌≤◌}
use Rattle.analysis.specs.Parts.Membership.{weighted}
use Rattle.analysis.specs.Parts.RecordParts.{padded}
use Rattle.analysis.proofs.membership.weight.Given as goal

abbrev pub invariant-loop-i : goal.invariant-loop-i
invariant-loop-i l = (l.sum ≡ weighted 2 (padded l.bytes l.at l.names) l.i) × (l.sum ≤ 16711425 * l.i)
