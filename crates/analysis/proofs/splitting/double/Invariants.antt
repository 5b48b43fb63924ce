-- `splitting::double`: as long as a doubling is at most the place, it is written.
use Rattle.std.proofs.Common.{◌≡◌, ℕ, suc, ◌-◌, ◌<◌, ◌≤◌, get_or}
use Rattle.analysis.specs.Parts.Doubling as spec
use Rattle.analysis.proofs.splitting.double.Given as goal

abbrev pub invariant-loop-doubled : goal.invariant-loop-doubled
invariant-loop-doubled l =
    (l.count ≤ 32) × (l.doubled ≡ spec.doubled l.width l.count) × ((k : ℕ) → k < l.count → get_or l.widths k 0 ≡ spec.doubled l.width k)

abbrev pub decreases-loop-doubled : goal.decreases-loop-doubled
decreases-loop-doubled l = suc l.place - l.doubled
