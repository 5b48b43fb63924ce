-- `solver::offer_successors`: along the links, what follows each edge passed was offered, or all that follows from a guard of the deterministic graph on.
use Rattle.std.proofs.Common.{◌≡◌, ℕ, ◌+◌, ◌-◌, ◌<◌, min, false, List, length, get_or}
use Rattle.program.specs.Graph.{Graph}
use Rattle.program.specs.Parts.Prepared.{Prepared, Following, source_in, action_in, is_guard_node, edge_count_place}
use Rattle.analysis.specs.Parts.Judging.{ReadInto, names_in}
use Rattle.analysis.specs.Solver.{offer_results}
use Rattle.analysis.specs.Parts.Solving.{found_in, along, Extended}
use Rattle.analysis.proofs.solver.offer_successors.Given as goal

abbrev pub invariant-loop-e : goal.invariant-loop-e
invariant-loop-e l =
    (l.e < get_or l.machine.graph.now edge_count_place 0 → source_in l.machine.graph.now l.e ≡ l.node)
    × Extended (2 + names_in l.machine.code.now) l.initial.buffer l.initial.progress l.buffer l.index l.progress
    × ((ns : List ℕ) (g : Graph) (ρ : List ℕ) (room : ℕ) → Prepared ns g l.machine.code.now l.machine.graph.now → ReadInto ρ l.memory.rho.now (length ns) → l.initial.progress.room ≡ room
    → found_in (2 + names_in l.machine.code.now) l.buffer l.progress
    ≡ along (offer_results ns g room ρ) g l.node (min l.e (get_or l.machine.graph.now edge_count_place 0)) (found_in (2 + names_in l.machine.code.now) l.initial.buffer l.initial.progress))
    × (l.node < 129 → Following l.machine.graph.now l.node (λ k. is_guard_node (action_in l.machine.graph.now k) ≡ false) l.e)

abbrev pub decreases-loop-e : goal.decreases-loop-e
decreases-loop-e l = get_or l.machine.graph.now edge_count_place 0 - l.e
