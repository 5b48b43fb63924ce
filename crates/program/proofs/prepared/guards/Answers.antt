-- `prepared::guards` meets its contract.
use borrow.Author.Tests.{ne_eqb}
use mathlib.Core.Path.{sym, ◌∙◌}
use Rattle.program.specs.Parts.Prepared.{action_in}
use Rattle.program.proofs.Readings.{action_plain}
use Rattle.program.proofs.prepared.guards.Goals as goal

pub returns-else-edge_word-eq4 : goal.returns-else-edge_word-eq4
unfolding action_in
returns-else-edge_word-eq4 c = rw (ne_eqb _ _ c.if-edge_word-eq4.false) (sym (action_plain _ _ _ (λ k. c.if-edge_word-eq4.false (c.edge_word.ensures ∙ k))))
