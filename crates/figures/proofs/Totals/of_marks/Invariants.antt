-- `Totals::of_marks`: both totals are those of the marks passed over; each mark is small, so that no sum leaves 64 bits.
use mathlib.Core.Path.{◌≡◌}
use mathlib.Core.List.{map}
use lib.ListN.{take}
use Rattle.figures.specs.Totals.{sum_of, square}
use Rattle.figures.proofs.Totals.of_marks.Given as goal

abbrev pub invariant-loop-x : goal.invariant-loop-x
invariant-loop-x l = (l.sum ≡ sum_of (take l.x-index l.marks)) × (l.squares ≡ sum_of (take l.x-index (map square l.marks)))
