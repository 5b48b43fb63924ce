-- The cycle of calls {`Machine::boolean_negative`}: a part is lower than what it is a part of, so the measure is `bound`.
use Rattle.std.proofs.Common.{◌≡◌, ℕ, ◌<◌, [], inl, inr, arith}
use Rattle.program.specs.declared.BooleanNode.{BooleanNode}
use Rattle.program.proofs.Forms.{BooleanParts}
use Rattle.program.proofs.Laws.{boolean_lower}
use Rattle.analysis.proofs.evaluator.Machine.+boolean_negative.Goals as goal
use Rattle.analysis.proofs.evaluator.Machine.+boolean_negative.Goals.{After-boolean_node-node}

-- a part in the same table may be asked about
lower : (t : ℕ) (c : After-boolean_node-node t) {k : BooleanNode} → c.boolean_node-node.result ≡ k → BooleanParts k → c.args.n < t
lower t c told p = omega (arith, boolean_lower _ _ _ (c.boolean_node-node.ensures []) told p)

pub boolean_negative-requires : goal.boolean_negative-requires
boolean_negative-requires t c = (lower t (goal.at.boolean_negative-requires t c).After-boolean_node-node c.in-Not.is tt, c.requires)

pub boolean_negative-requires-in-Both : goal.boolean_negative-requires-in-Both
boolean_negative-requires-in-Both t c =
    let w = (goal.at.boolean_negative-requires-in-Both t c).After-boolean_node-node in
    (elim c.in-Both.is [ inl e ↦ lower t w e tt | inr e ↦ lower t w e tt ], c.requires)

pub boolean_negative-requires-else-boolean_negative : goal.boolean_negative-requires-else-boolean_negative
boolean_negative-requires-else-boolean_negative t c =
    let w = (goal.at.boolean_negative-requires-else-boolean_negative t c).After-boolean_node-node in
    (elim c.in-Both.is [ inl e ↦ lower t w e tt | inr e ↦ lower t w e tt ], c.requires)
