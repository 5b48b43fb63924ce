-- `class::all_in_range`: where the answer is still yes, every mark passed over is in the range.
use Prim.Native.Nat.{ℕ, ◌<◌}
use mathlib.Core.Bool.{true}
use mathlib.Core.Path.{◌≡◌}
use lib.IntN.{pos}
use lib.ListN.{get_or}
use Rattle.figures.specs.Figures.{in_range}
use Rattle.figures.proofs.class.all_in_range.Given as goal

abbrev pub invariant-loop-mark : goal.invariant-loop-mark
invariant-loop-mark l = l.all ≡ true → (k : ℕ) → k < l.mark-index → in_range (get_or l.marks k (pos 0)) ≡ true
