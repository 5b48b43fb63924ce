-- The cycle of calls {`Machine::exit`}: a part is lower than what it is a part of, so the measure is `bound`.
use borrow.Author.Rules.{rules}
use mathlib.Core.Path.{◌≡◌, refl}
use mathlib.Core.List.{[]}
use Prim.Native.Nat.{ℕ, ◌<◌}
use native.Mathlib.Omega.{arith}
use Rattle.program.specs.Tree.{command_made}
use Rattle.program.specs.Graph.{done}
use Rattle.program.specs.declared.CommandNode.{CommandNode}
use Rattle.program.proofs.Forms.{CommandParts}
use Rattle.program.proofs.Laws.{command_told, command_lower, boolean_whole}
use Rattle.semantics.proofs.Keys.{left_at_once}
use Rattle.semantics.proofs.Valued.{true_holds, negation_holds, conjunction_holds}
use Rattle.semantics.proofs.evaluator.Machine.+exit.Goals as goal
use Rattle.semantics.proofs.evaluator.Machine.+exit.Goals.{After-command_node-node}

-- a part in the same table may be asked about
lower : (t : ℕ) (c : After-command_node-node t) {k : CommandNode} → c.command_node-node.result ≡ k → CommandParts k → c.args.n < t
lower t c told p = omega (arith, command_lower _ _ _ (c.command_node-node.ensures []) told p)

pub exit-a-requires : goal.exit-a-requires
exit-a-requires t c = (lower t (goal.at.exit-a-requires t c).After-command_node-node c.in-Choice.is tt, c.requires)

pub exit-b-requires : goal.exit-b-requires
exit-b-requires t c = (lower t (goal.at.exit-b-requires t c).After-command_node-node c.in-Choice.is tt, c.requires)

pub returns-in-Guarded : goal.returns-in-Guarded
unfolding command_made done
returns-in-Guarded t c =
    rw (command_told _ _ _ (c.command_node-node.ensures c.args.self.code.now) c.in-Guarded.is, boolean_whole c.args.self.code.now c.args.self.graph.now)
    (negation_holds _ (c.holds-a.ensures _) c.negated.ensures)

pub returns-in-Choice : goal.returns-in-Choice
unfolding command_made done
returns-in-Choice t c =
    rw (command_told _ _ _ (c.command_node-node.ensures c.args.self.code.now) c.in-Choice.is)
    (conjunction_holds _ c.exit-a.ensures c.exit-b.ensures c.both.ensures)

pub returns-in_default : goal.returns-in_default
returns-in_default t c = rw (command_told _ _ _ (c.command_node-node.ensures c.args.self.code.now) refl, left_at_once _ _ c.command_node-node.result (search rules)) (true_holds _ c.truth.ensures)
