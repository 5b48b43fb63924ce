-- `program::prepared::linking::link_edge` meets its contract.
use Rattle.program.specs.Parts.LinkingParts.{linked_one}
use Rattle.program.proofs.prepared.linking.link_edge.Goals as goal

pub returns : goal.returns
unfolding linked_one
returns c = rw (← c.edge_source.ensures)
