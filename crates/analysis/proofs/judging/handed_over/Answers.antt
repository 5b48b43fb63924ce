-- `judging::handed_over`: by the query.
use Rattle.analysis.specs.Parts.Judging.{handed_over}
use Rattle.analysis.proofs.judging.handed_over.Goals as goal

pub returns-in-MissingResult : goal.returns-in-MissingResult
unfolding handed_over
returns-in-MissingResult c = rw c.in-MissingResult.is c.guards.ensures

pub returns-in-NegativeIndex : goal.returns-in-NegativeIndex
unfolding handed_over
returns-in-NegativeIndex c = rw c.in-NegativeIndex.is
