-- `Packed::unpacked`: a code that is no fault has 32 bits.
use mathlib.Core.Path.{◌∙◌}
use mir.Facts.{sfits_widen}
use mir.Syntax.{w64}
use mir.ValLaws.{to_z-of_z}
use Rattle.semantics.proofs.Coded.{code_as, narrow}
use Rattle.semantics.proofs.evaluator.packed.Packed.unpacked.Goals as goal

pub overflow_cast-result : goal.overflow_cast-result
overflow_cast-result c =
    let f = code_as c.self.inside.number c.self.invariant c.self.view_is c.requires in
    rw (to_z-of_z w64 c.self.inside.number (sfits_widen tt f)) f

pub returns : goal.returns
returns c = narrow c.self.inside.number (code_as c.self.inside.number c.self.invariant c.self.view_is c.requires) ∙ c.self.view_is
