-- `program::drawing::named` meets its contract.
use borrow.Author.Tests.{ne_eqb}
use Rattle.program.specs.Graph.{named}
use Rattle.program.proofs.drawing.named.Goals as goal

pub returns-in-1 : goal.returns-in-1
unfolding named
returns-in-1 c = rw c.in-1.is

pub returns-in-2 : goal.returns-in-2
unfolding named
returns-in-2 c = rw c.in-2.is

pub returns-in_default : goal.returns-in_default
unfolding named
returns-in_default c =
    let other = c.in_default.in_default-own.rest in
    rw (ne_eqb _ 1 other.0.1, ne_eqb _ 2 other.1) c.unnamed.ensures
