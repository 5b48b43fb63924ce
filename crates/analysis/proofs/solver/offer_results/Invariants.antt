-- `solver::offer_results`: what is left of the sets is offered to the list so far.
use Rattle.std.proofs.Common.{◌≡◌, ℕ, ◌+◌, ◌/◌, ◌%◌, ◌<◌, List, map, length, set}
use mathlib.Core.List.{foldl}
use Rattle.analysis.specs.Parts.Changing.{sets_of}
use Rattle.analysis.specs.Parts.Judging.{ReadInto}
use Rattle.analysis.specs.Solver.{offer}
use Rattle.analysis.specs.Parts.Solving.{found_in, Extended}
use Rattle.analysis.proofs.solver.offer_results.Given as goal

abbrev pub invariant-loop-sets : goal.invariant-loop-sets
invariant-loop-sets l =
    (l.sets < 68719476736)
    × Extended (2 + l.memory.names) l.initial.buffer l.initial.progress l.buffer l.index l.progress
    × ((ns ρ : List ℕ) (room : ℕ) → length ns ≡ l.memory.names → ReadInto ρ l.memory.rho.now l.memory.names → l.initial.progress.room ≡ room
    → foldl (offer ns room l.node) (found_in (2 + l.memory.names) l.initial.buffer l.initial.progress) (map (set ρ (l.found % 64)) (sets_of (l.found / 64)))
    ≡ foldl (offer ns room l.node) (found_in (2 + l.memory.names) l.buffer l.progress) (map (set ρ (l.found % 64)) (sets_of l.sets)))

abbrev pub decreases-loop-sets : goal.decreases-loop-sets
decreases-loop-sets l = l.sets
