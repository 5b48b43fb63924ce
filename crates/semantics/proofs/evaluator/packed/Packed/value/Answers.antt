-- `Packed::value`: 32 bits hold a code.
use mathlib.Core.Path.{◌≡◌, ◌∙◌}
use mir.Syntax.{w32}
use mir.ValLaws.{to_z-of_z}
use Rattle.semantics.proofs.Coded.{stored_as, small_code, small_evaluated}
use Rattle.semantics.proofs.evaluator.packed.Packed.value.Goals as goal
use Rattle.semantics.proofs.evaluator.packed.Packed.value.Goals.{After-from}

same : (c : After-from) → c.from.result ≡ c.args.z
same c = c.from.ensures ∙ to_z-of_z w32 c.args.z c.ranges.z

pub invariant_of-result : goal.invariant_of-result
invariant_of-result c = rw (stored_as c.from.result (same (goal.at.invariant_of-result c).After-from) c.ranges.z) (small_code c.args.z c.ranges.z)

pub returns : goal.returns
returns c = rw (stored_as c.from.result (same (goal.at.returns c).After-from) c.ranges.z) (small_evaluated c.args.z c.ranges.z)
