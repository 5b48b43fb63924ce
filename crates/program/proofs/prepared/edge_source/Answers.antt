-- `prepared::edge_source` meets its contract.
use Rattle.program.specs.Parts.Prepared.{source_in}
use Rattle.program.proofs.prepared.edge_source.Goals as goal

pub returns : goal.returns
unfolding source_in
returns c = c.edge_word.ensures
