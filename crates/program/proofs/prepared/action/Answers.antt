-- `prepared::action` meets its contract.
use mathlib.Core.Path.{sym, ap, ◌∙◌}
use mathlib.Core.List.{[]}
use Rattle.program.specs.Parts.Prepared.{guard_form, action_form, action_in}
use Rattle.program.proofs.Readings.{action_plain}
use Rattle.program.proofs.prepared.action.Goals as goal

pub returns-then-kind-eq4 : goal.returns-then-kind-eq4
unfolding action_in action_form
returns-then-kind-eq4 c =
    rw (sym c.edge_word-kind.ensures ∙ c.if-kind-eq4.true, ← c.edge_word-entry.ensures) (c.guard_of.ensures ∙ ap guard_form (c.command_node.ensures []))

pub returns : goal.returns
unfolding action_in
returns c = c.plain_action.ensures (action_plain _ _ _ (λ k. c.if-kind-eq4.false (c.edge_word-kind.ensures ∙ k)))
