-- `Packed::is_true`: a code is compared by its bits.
use mathlib.Core.Path.{◌∙◌, ap}
use lib.IntN.{ℤ, pos}
use Rattle.signs.specs.Number.{equal}
use Rattle.semantics.proofs.Coded.{true_bits}
use Rattle.semantics.proofs.evaluator.packed.Packed.is_true.Goals as goal

pub returns : goal.returns
returns c = true_bits c.self.inside.number c.self.invariant ∙ ap (λ (z : ℤ). equal z (pos 1)) c.self.view_is
