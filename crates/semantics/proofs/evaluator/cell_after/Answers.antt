-- `evaluator::cell_after`: past the end there is 0.
use Rattle.std.specs.Prelude.{Ok}
use mathlib.Core.Path.{sym, ap, ◌∙◌}
use native.Mathlib.Omega.{arith}
use lib.IntN.{pos}
use lib.ListN.{get_or-eq_default}
use Rattle.semantics.specs.Expression.{cell_value}
use Rattle.semantics.proofs.evaluator.cell_after.Goals as goal

pub returns-then-memory-c : goal.returns-then-memory-c
unfolding cell_value
returns-then-memory-c c = c.value.ensures ∙ ap Ok (sym (get_or-eq_default c.args.memory.now (pos 0) (omega (arith, c.if-memory-c.true))))
