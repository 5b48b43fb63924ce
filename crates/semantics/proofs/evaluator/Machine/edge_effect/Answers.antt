-- `Machine::edge_effect`: a guard after those of the lower edges, or the action by itself.
use mathlib.Core.Path.{sym, ◌∙◌}
use Rattle.program.specs.Parts.Prepared.{edge_meaning}
use Rattle.program.proofs.Laws.{after_guard, after_other}
use Rattle.semantics.proofs.Effects.{test_effect}
use Rattle.semantics.proofs.evaluator.Machine.edge_effect.Goals as goal

pub returns-then-guards : goal.returns-then-guards
unfolding edge_meaning
returns-then-guards c =
    rw (after_guard _ _ _ (sym c.guards.ensures ∙ c.if-guards.true), c.passed.ensures) (test_effect c.selected-v.ensures)

pub returns : goal.returns
unfolding edge_meaning
returns c =
    let plain = sym c.guards.ensures ∙ c.if-guards.false in
    rw (after_other _ _ _ plain) (rw (c.plain_action-action.ensures plain) at c.effect.ensures)
