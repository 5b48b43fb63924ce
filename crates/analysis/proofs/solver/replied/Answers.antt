-- `solver::replied`: by whether one had no room.
use Rattle.analysis.specs.Solver.{finished_or}
use Rattle.analysis.proofs.solver.replied.Goals as goal

pub returns-then-found : goal.returns-then-found
unfolding finished_or
returns-then-found c = rw c.if-found.true

pub returns-else-found : goal.returns-else-found
unfolding finished_or
returns-else-found c = rw c.if-found.false
