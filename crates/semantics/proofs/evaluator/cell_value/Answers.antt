-- `evaluator::cell_value`: a cell has a number of 32 bits, and past the end there is 0.
use Rattle.std.specs.Prelude.{Ok}
use borrow.Author.Rules.{rules}
use mathlib.Core.Path.{sym, ap, ◌∙◌}
use lib.IntN.{pos}
use lib.ListN.{get_or, get_or-eq_default}
use mir.Syntax.{w32}
use mir.ValLaws.{to_z-of_z}
use Rattle.semantics.specs.Expression.{cell_value}
use Rattle.semantics.proofs.evaluator.cell_value.Goals as goal

pub returns-then-c-memory : goal.returns-then-c-memory
unfolding cell_value
returns-then-c-memory c = c.value.ensures ∙ ap Ok (to_z-of_z w32 (get_or c.args.memory.now c.args.c (pos 0)) (search rules))

pub returns-else-c-memory : goal.returns-else-c-memory
unfolding cell_value
returns-else-c-memory c = c.value-else-c-memory.ensures ∙ ap Ok (sym (get_or-eq_default c.args.memory.now (pos 0) c.if-c-memory.false))
