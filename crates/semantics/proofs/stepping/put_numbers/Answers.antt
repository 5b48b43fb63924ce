-- `stepping::put_numbers`: the numbers passed are put, and the other cells are as they were.
use mathlib.Core.Path.{◌∙◌}
use native.Mathlib.Omega.{arith}
use mir.Syntax.{w32}
use mir.ValLaws.{to_z-of_z}
use Rattle.semantics.proofs.Padding.{numbering_more}
use Rattle.semantics.proofs.stepping.put_numbers.Goals as goal

pub loop-n-preserved : goal.loop-n-preserved
loop-n-preserved c =
    numbering_more _ _ _ c.loop-n.n _ c.loop-n.invariant (omega arith) (to_z-of_z w32 _ (record { sfits = c.number_at.type_inv }) ∙ c.number_at.ensures)
