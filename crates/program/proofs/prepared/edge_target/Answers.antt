-- `prepared::edge_target` meets its contract.
use Rattle.program.specs.Parts.Prepared.{target_in}
use Rattle.program.proofs.prepared.edge_target.Goals as goal

pub returns : goal.returns
unfolding target_in
returns c = c.edge_word.ensures
