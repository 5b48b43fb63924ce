-- `prepared::plain_action` meets its contract.
use borrow.Author.Rules.{rules}
use mathlib.Core.Path.{sym, ap, ◌∙◌}
use mathlib.Core.List.{[]}
use Rattle.program.specs.Parts.Prepared.{performed, action_form, action_in}
use Rattle.program.proofs.Readings.{action_other}
use Rattle.program.proofs.prepared.plain_action.Goals as goal

pub returns-in-1 : goal.returns-in-1
unfolding action_in action_form
returns-in-1 c plain =
    rw (sym c.edge_word-kind.ensures ∙ c.in-1.is, ← c.edge_word-entry.ensures) (c.performed.ensures ∙ ap performed (c.command_node.ensures []))

pub returns-in-2 : goal.returns-in-2
unfolding action_in action_form
returns-in-2 c plain = rw (sym c.edge_word-kind.ensures ∙ c.in-2.is, ← c.edge_word-entry.ensures)

pub returns-in-3 : goal.returns-in-3
unfolding action_in action_form
returns-in-3 c plain = rw (sym c.edge_word-kind.ensures ∙ c.in-3.is, ← c.edge_word-entry.ensures)

pub returns-in_default : goal.returns-in_default
unfolding action_in
returns-in_default c plain =
    let kind = c.edge_word-kind.ensures in
    rw (← kind) (action_other _ _ _ (search rules) (rw (← kind) at plain))
