-- The cycle of calls {`Machine::truth`}: a part is lower than what it is a part of, so the measure is `bound`.
use mathlib.Core.Path.{◌≡◌}
use mathlib.Core.List.{[]}
use Prim.Native.Nat.{ℕ, ◌<◌}
use native.Mathlib.Omega.{arith}
use Rattle.program.specs.Tree.{boolean_made}
use Rattle.program.specs.declared.BooleanNode.{BooleanNode}
use Rattle.program.proofs.Forms.{BooleanParts}
use Rattle.program.proofs.Laws.{boolean_told, boolean_lower}
use Rattle.semantics.proofs.Coded.{tested, one_decided, other_decided}
use Rattle.semantics.proofs.Valued.{true_holds, negation_holds, conjunction_holds, short_right, short_left}
use Rattle.semantics.proofs.evaluator.Machine.+truth.Goals as goal
use Rattle.semantics.proofs.evaluator.Machine.+truth.Goals.{After-boolean_node-node}

-- a part in the same table may be asked about
lower : (t : ℕ) (c : After-boolean_node-node t) {k : BooleanNode} → c.boolean_node-node.result ≡ k → BooleanParts k → c.args.n < t
lower t c told p = omega (arith, boolean_lower _ _ _ (c.boolean_node-node.ensures []) told p)

pub truth-a-requires : goal.truth-a-requires
truth-a-requires t c = (lower t (goal.at.truth-a-requires t c).After-boolean_node-node c.in-Both.is tt, c.requires)

pub truth-b-requires : goal.truth-b-requires
truth-b-requires t c = (lower t (goal.at.truth-b-requires t c).After-boolean_node-node c.in-Both.is tt, c.requires)

pub truth-a-requires-in-AndThen : goal.truth-a-requires-in-AndThen
truth-a-requires-in-AndThen t c = (lower t (goal.at.truth-a-requires-in-AndThen t c).After-boolean_node-node c.in-AndThen.is tt, c.requires)

pub truth-requires-then-is_true : goal.truth-requires-then-is_true
truth-requires-then-is_true t c = (lower t (goal.at.truth-requires-then-is_true t c).After-boolean_node-node c.in-AndThen.is tt, c.requires)

pub truth-a-requires-in-Not : goal.truth-a-requires-in-Not
truth-a-requires-in-Not t c = (lower t (goal.at.truth-a-requires-in-Not t c).After-boolean_node-node c.in-Not.is tt, c.requires)

pub returns-in-True : goal.returns-in-True
unfolding boolean_made
returns-in-True t c graph = rw (boolean_told _ _ _ (c.boolean_node-node.ensures graph) c.in-True.is) (true_holds _ c.truth.ensures)

pub returns-in-Comparison : goal.returns-in-Comparison
unfolding boolean_made
returns-in-Comparison t c graph =
    rw (boolean_told _ _ _ (c.boolean_node-node.ensures graph) c.in-Comparison.is) (c.comparison.ensures graph _)

pub returns-in-Both : goal.returns-in-Both
unfolding boolean_made
returns-in-Both t c graph =
    rw (boolean_told _ _ _ (c.boolean_node-node.ensures graph) c.in-Both.is)
    (conjunction_holds _ (c.truth-a.ensures graph) (c.truth-b.ensures graph) c.both.ensures)

pub returns-then-is_true : goal.returns-then-is_true
unfolding boolean_made
returns-then-is_true t c graph =
    rw (boolean_told _ _ _ (c.boolean_node-node.ensures graph) c.in-AndThen.is)
    (short_right _ (c.truth-a-in-AndThen.ensures graph) (one_decided _ (tested c.is_true.ensures c.if-is_true.true)) (c.truth-then-is_true.ensures graph))

pub returns-else-is_true : goal.returns-else-is_true
unfolding boolean_made
returns-else-is_true t c graph =
    rw (boolean_told _ _ _ (c.boolean_node-node.ensures graph) c.in-AndThen.is)
    (short_left _ (c.truth-a-in-AndThen.ensures graph) (λ y. other_decided c.truth-a-in-AndThen.result y (tested c.is_true.ensures c.if-is_true.false)))

pub returns-in-Not : goal.returns-in-Not
unfolding boolean_made
returns-in-Not t c graph =
    rw (boolean_told _ _ _ (c.boolean_node-node.ensures graph) c.in-Not.is)
    (negation_holds _ (c.truth-a-in-Not.ensures graph) c.negated.ensures)
