-- `program::prepared::graphing::draw_guard`: the edge of the kind and the entry that the construction gives a guard.
use Rattle.program.specs.Parts.GraphingParts.{guard_kind, guard_entry}
use Rattle.program.proofs.prepared.graphing.draw_guard.Goals as goal

pub draw_edge-requires : goal.draw_edge-requires
unfolding guard_kind guard_entry
draw_edge-requires c = rw c.in-Nondeterministic.is at c.requires

pub draw_edge-requires-in-Deterministic : goal.draw_edge-requires-in-Deterministic
unfolding guard_kind guard_entry
draw_edge-requires-in-Deterministic c = rw c.in-Deterministic.is at c.requires

pub returns-in-Nondeterministic : goal.returns-in-Nondeterministic
unfolding guard_kind guard_entry
returns-in-Nondeterministic c = rw c.in-Nondeterministic.is c.draw_edge.ensures

pub returns-in-Deterministic : goal.returns-in-Deterministic
unfolding guard_kind guard_entry
returns-in-Deterministic c = rw c.in-Deterministic.is c.draw_edge-in-Deterministic.ensures
