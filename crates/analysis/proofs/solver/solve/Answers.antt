-- `solver::solve`: the solution on the construction where none is named.
use Rattle.analysis.proofs.solver.solve.Goals as goal

pub returns : goal.returns
returns c = rw c.unnamed.ensures at c.solve_on.ensures
