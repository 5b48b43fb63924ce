-- `program::prepared::graphing::landing` meets its contract.
use Rattle.program.specs.Graph.{landing}
use Rattle.program.proofs.prepared.graphing.landing.Goals as goal

pub returns-in-Break : goal.returns-in-Break
unfolding landing
returns-in-Break c =
    rw c.in-Break.is

pub returns-in-Continue : goal.returns-in-Continue
unfolding landing
returns-in-Continue c =
    rw c.in-Continue.is
