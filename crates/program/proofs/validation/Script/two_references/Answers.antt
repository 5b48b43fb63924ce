-- `program::validation::Script::two_references` meets its contract.
use Rattle.program.proofs.Checking.{known_checked}
use Rattle.program.proofs.validation.Script.two_references.Goals as goal

pub returns : goal.returns
returns c = λ t n e here shaped. known_checked _ t n here shaped (c.reference-p.ensures t n e) (c.reference-q.ensures t n e) (c.unused-r.ensures _ t n _) c.settled.ensures
