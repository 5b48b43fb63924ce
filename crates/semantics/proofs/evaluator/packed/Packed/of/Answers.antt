-- `Packed::of`: a value, or a reason's fault.
use Rattle.std.specs.Prelude.{Ok}
use borrow.Author.Rules.{rules}
use mathlib.Core.Path.{ap, ◌∙◌}
use mir.Syntax.{w32}
use mir.Val.{SFits}
use mir.ValLaws.{to_z-of_z}
use Rattle.semantics.specs.Expression.{operated}
use Rattle.semantics.proofs.evaluator.packed.Packed.of.Goals as goal
use Rattle.semantics.proofs.evaluator.packed.Packed.of.Goals.{In-Ok}

fits : (c : In-Ok) → SFits w32 c.in-Ok.z
fits c = search rules

pub returns-in-Ok : goal.returns-in-Ok
unfolding operated
returns-in-Ok c = rw c.in-Ok.is (c.value.ensures ∙ ap Ok (to_z-of_z w32 c.in-Ok.z (fits (goal.at.returns-in-Ok c).In-Ok)))

pub returns-in-Err : goal.returns-in-Err
unfolding operated
returns-in-Err c = rw c.in-Err.is c.fault.ensures.evaluated
