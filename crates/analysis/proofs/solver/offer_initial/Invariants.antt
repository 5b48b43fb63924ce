-- `solver::offer_initial`: the records passed were offered.
use Rattle.std.proofs.Common.{◌≡◌, ℕ, ◌+◌, List, length}
use mathlib.Core.List.{foldl}
use Rattle.signs.specs.Lists.{tabulate}
use Rattle.analysis.specs.Records.{record_at}
use Rattle.analysis.specs.Solver.{offer}
use Rattle.analysis.specs.Parts.Solving.{found_in, Extended}
use Rattle.analysis.proofs.solver.offer_initial.Given as goal

abbrev pub invariant-loop-k : goal.invariant-loop-k
invariant-loop-k l =
    Extended (2 + l.names) l.initial.buffer l.initial.progress l.buffer l.index l.progress
    × ((ns : List ℕ) (room : ℕ) → length ns ≡ l.names → l.initial.progress.room ≡ room
    → found_in (2 + l.names) l.buffer l.progress ≡ foldl (offer ns room 0) (found_in (2 + l.names) l.initial.buffer l.initial.progress) (tabulate l.k (record_at l.names l.initial')))
