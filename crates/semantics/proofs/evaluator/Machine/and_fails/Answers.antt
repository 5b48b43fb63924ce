-- `Machine::and_fails`: one guard more, or none.
use borrow.Author.Tests.{eq-eqb, ne_eqb}
use mathlib.Core.Path.{◌∙◌, sym}
use Rattle.semantics.specs.Parts.Selecting.{guard_at}
use Rattle.semantics.proofs.Selections.{none_fails, one_fails}
use Rattle.semantics.proofs.evaluator.Machine.and_fails.Goals as goal

pub returns-then-edge_source-node : goal.returns-then-edge_source-node
unfolding guard_at
returns-then-edge_source-node c =
    rw (eq-eqb _ _ (sym c.edge_source.ensures ∙ c.if-edge_source-node.true))
    (one_fails _ c.own-a.ensures c.negated.ensures c.both.ensures)

pub returns : goal.returns
unfolding guard_at
returns c =
    rw (ne_eqb _ _ (λ e. c.if-edge_source-node.false (c.edge_source.ensures ∙ e))) (none_fails _)
