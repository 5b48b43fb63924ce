-- `judging::spot_at`: the record's node and abstract memory are read, and the edges out of the node followed.
use Rattle.std.proofs.Common.{◌≡◌, ℕ, ◌+◌, ◌*◌, ◌≤◌, List, length, sym, ◌∙◌, arith}
use Rattle.program.specs.Graph.{Graph}
use Rattle.analysis.specs.Parts.Judging.{spot_of, names_in, Searched}
use Rattle.analysis.specs.Records.{record_count}
use Rattle.analysis.specs.Verdict.{spot_at}
use Rattle.analysis.proofs.Judged.{ready_names}
use Rattle.analysis.proofs.Laid.{record_inside}
use Rattle.analysis.proofs.Searching.{node_read, node_low, memory_read}
use Rattle.analysis.proofs.judging.spot_at.Goals as goal
use Rattle.analysis.proofs.judging.spot_at.Goals.{After-first_picked, Start}

-- the record is inside the solution
inside : (c : Start) → (2 + names_in c.args.code.now) * c.args.k + (2 + names_in c.args.code.now) ≤ length c.args.solution.now
unfolding record_count
inside c = record_inside _ _ _ c.requires.1

pub overflow_mul-at : goal.overflow_mul-at
overflow_mul-at c = rw c.name_count-names.ensures (record { fits = omega (arith, inside (goal.at.overflow_mul-at c).Start) })

pub overflow_add-at-2 : goal.overflow_add-at-2
overflow_add-at-2 c = rw c.name_count-names.ensures (record { fits = omega (arith, inside (goal.at.overflow_add-at-2 c).Start) })

pub read_memory-requires : goal.read_memory-requires
read_memory-requires c =
    (rw c.name_count-names.ensures (ready_names c.requires.0.ready).1, rw c.name_count-names.ensures (omega (arith, inside (goal.at.read_memory-requires c).Start)))

pub overflow_add-at-3 : goal.overflow_add-at-3
overflow_add-at-3 c = rw c.name_count-names.ensures (record { fits = omega (arith, inside (goal.at.overflow_add-at-3 c).Start) })

pub weight-weight-requires : goal.weight-weight-requires
weight-weight-requires c =
    (c.requires.0.indexed.factored, rw c.name_count-names.ensures (ready_names c.requires.0.ready).1, rw c.name_count-names.ensures (omega (arith, inside (goal.at.weight-weight-requires c).Start)))

-- what was found
picked : (c : After-first_picked) (ns : List ℕ) (g : Graph)
    → Searched ns g c.args.code.now c.args.graph.now c.args.query c.args.solution.now c.args.index.now
    → spot_at c.args.k c.first_picked.result ≡ spot_of ns g c.args.solution.now c.args.query c.args.k
unfolding spot_of
picked c ns g x =
    let h = c.requires.1 in
    let node = rw c.name_count-names.ensures at c.word_at-node.ensures in
    let sized = sym (c.name_count-names.ensures ∙ x.prepared.coded.count) in
    let memory = rw c.name_count-names.ensures at c.read_memory.ensures in
    rw (node_read x _ h _ node, ← c.first_picked.ensures ns g _ sized x (memory_read x _ h _ memory) (node_low x _ h _ node))

pub returns : goal.returns
unfolding spot_at
returns c ns g x = rw (← picked (goal.at.returns c).After-first_picked ns g x, c.in_ok-edge.was)

pub returns-in_err-edge : goal.returns-in_err-edge
unfolding spot_at
returns-in_err-edge c ns g x = rw (c.from_residual.ensures, ← picked (goal.at.returns-in_err-edge c).After-first_picked ns g x, c.in_err-edge.was)
