-- `running::stopped`: at node 1, or not.
use borrow.Author.Tests.{eq-eqb, ne_eqb}
use Rattle.semantics.specs.Parts.Running.{ending_at}
use Rattle.semantics.proofs.running.stopped.Goals as goal

pub returns-then-run-eq1 : goal.returns-then-run-eq1
unfolding ending_at
returns-then-run-eq1 c = rw (eq-eqb _ 1 c.if-run-eq1.true)

pub returns-else-run-eq1 : goal.returns-else-run-eq1
unfolding ending_at
returns-else-run-eq1 c = rw (ne_eqb _ 1 c.if-run-eq1.false)
