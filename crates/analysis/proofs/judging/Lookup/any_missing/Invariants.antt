-- `Lookup::any_missing`: set by set, up to the first that is missing; what is left decides.
use Rattle.std.proofs.Common.{◌≡◌, ℕ, ◌/◌, ◌%◌, ◌<◌, List, length}
use Rattle.analysis.specs.Parts.Judging.{Filled, ReadInto}
use Rattle.analysis.proofs.Searching.{SomeMissing}
use Rattle.analysis.proofs.judging.Lookup.any_missing.Given as goal

abbrev pub invariant-loop-sets : goal.invariant-loop-sets
invariant-loop-sets l =
    (l.sets < 68719476736)
    × ((ns ρ : List ℕ) → length ns ≡ l.self.names → Filled l.self.names l.self.solution.now l.self.index.now → ReadInto ρ l.self.rho.now l.self.names
    → SomeMissing ns l.self.solution.now l.node ρ (l.found % 64) (l.found / 64) ≡ SomeMissing ns l.self.solution.now l.node ρ l.name l.sets)

abbrev pub decreases-loop-sets : goal.decreases-loop-sets
decreases-loop-sets l = l.sets
