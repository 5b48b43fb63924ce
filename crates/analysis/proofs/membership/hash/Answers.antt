-- `membership::hash`: the node's terms and the memory's.
use Rattle.analysis.specs.Parts.Membership.{spread}
use Rattle.analysis.proofs.membership.hash.Goals as goal

pub returns : goal.returns
unfolding spread
returns c = rw (c.term.ensures.value, c.term-2.ensures.value, c.to_be_bytes.ensures)
