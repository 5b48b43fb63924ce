-- `program::validation::entries::no_operand` meets its contract.
use Rattle.program.proofs.Checking.{known_checked}
use Rattle.program.proofs.validation.entries.no_operand.Goals as goal

pub returns : goal.returns
returns c = λ s t n counts here shaped. known_checked s t n here shaped (c.unused-p.ensures s t n counts) (c.unused-q.ensures s t n counts) (c.unused-r.ensures s t n counts) c.settled.ensures
