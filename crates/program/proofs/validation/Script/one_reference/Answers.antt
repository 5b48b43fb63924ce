-- `program::validation::Script::one_reference` meets its contract.
use Rattle.program.proofs.Checking.{known_checked}
use Rattle.program.proofs.validation.Script.one_reference.Goals as goal

pub returns : goal.returns
returns c = λ t n e here shaped. known_checked _ t n here shaped (c.reference-p.ensures t n e) (c.unused-q.ensures _ t n _) (c.unused-r.ensures _ t n _) c.settled.ensures
