-- The cycle of calls {`Machine::exit_negative`}: a part is lower than what it is a part of, so the measure is `bound`.
use Rattle.std.proofs.Common.{◌≡◌, ℕ, ◌<◌, [], arith}
use Rattle.program.specs.declared.CommandNode.{CommandNode}
use Rattle.program.proofs.Forms.{CommandParts}
use Rattle.program.proofs.Laws.{command_lower}
use Rattle.analysis.proofs.evaluator.Machine.+exit_negative.Goals as goal
use Rattle.analysis.proofs.evaluator.Machine.+exit_negative.Goals.{After-command_node-node}

-- a part in the same table may be asked about
lower : (t : ℕ) (c : After-command_node-node t) {k : CommandNode} → c.command_node-node.result ≡ k → CommandParts k → c.args.n < t
lower t c told p = omega (arith, command_lower _ _ _ (c.command_node-node.ensures []) told p)

pub exit_negative-requires : goal.exit_negative-requires
exit_negative-requires t c = (lower t (goal.at.exit_negative-requires t c).After-command_node-node c.in-Choice.is tt, c.requires)

pub exit_negative-requires-else-exit_negative : goal.exit_negative-requires-else-exit_negative
exit_negative-requires-else-exit_negative t c =
    (lower t (goal.at.exit_negative-requires-else-exit_negative t c).After-command_node-node c.in-Choice.is tt, c.requires)
