-- `solver::offer_guarded`: along the links up to the first guard that may not fail, what follows each edge passed was offered.
use Rattle.std.proofs.Common.{◌≡◌, ℕ, ◌+◌, ◌-◌, min, List, length, get_or}
use Rattle.program.specs.Graph.{Graph}
use Rattle.program.specs.Parts.Prepared.{Prepared, Following, edge_count_place}
use Rattle.semantics.specs.Parts.Selecting.{Opens}
use Rattle.analysis.specs.Parts.Judging.{ReadInto, names_in}
use Rattle.analysis.specs.Solver.{offer_results}
use Rattle.analysis.specs.Parts.Solving.{found_in, along, Extended}
use Rattle.analysis.proofs.Descending.{MayFail}
use Rattle.analysis.proofs.solver.offer_guarded.Given as goal

abbrev pub invariant-loop-e : goal.invariant-loop-e
invariant-loop-e l =
    Extended (2 + names_in l.machine.code.now) l.initial.buffer l.initial.progress l.buffer l.index l.progress
    × ((node : ℕ) → Opens l.machine.graph.now node l.first → Following l.machine.graph.now node (MayFail l.machine.code.now l.machine.graph.now l.memory.rho.now) l.e)
    × ((ns : List ℕ) (g : Graph) (ρ : List ℕ) (room node : ℕ) → Prepared ns g l.machine.code.now l.machine.graph.now → ReadInto ρ l.memory.rho.now (length ns) → l.initial.progress.room ≡ room → Opens l.machine.graph.now node l.first
    → found_in (2 + names_in l.machine.code.now) l.buffer l.progress
    ≡ along (offer_results ns g room ρ) g node (min l.e (get_or l.machine.graph.now edge_count_place 0)) (found_in (2 + names_in l.machine.code.now) l.initial.buffer l.initial.progress))

abbrev pub decreases-loop-e : goal.decreases-loop-e
decreases-loop-e l = get_or l.machine.graph.now edge_count_place 0 - l.e
