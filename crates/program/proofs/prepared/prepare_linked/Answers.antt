-- `program::prepared::prepare_linked` meets its contract.
use Rattle.program.proofs.Preparing.{refused_linked, prepared_linked}
use Rattle.program.proofs.Threads.{prepared_linkable}
use Rattle.program.proofs.prepared.prepare_linked.Goals as goal

pub returns-in_err-fill : goal.returns-in_err-fill
returns-in_err-fill c = refused_linked _ _ _ _ c.fill.ensures c.from_residual.ensures.1 c.in_err-fill.was

pub link-requires : goal.link-requires
link-requires c = prepared_linkable (c.fill.ensures.prepared c.in_ok-fill.was)

pub returns : goal.returns
returns c = prepared_linked _ _ _ _ _ c.fill.ensures c.in_ok-fill.was c.link.ensures
