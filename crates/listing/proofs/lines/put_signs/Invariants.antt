-- `lines::put_signs`: the signs passed are put.
use mathlib.Core.List.{flat_map}
use lib.ListN.{get_or}
use Rattle.signs.specs.Lists.{tabulate}
use Rattle.listing.specs.Parts.Writing.{Put}
use Rattle.listing.specs.Text.{ascii, labelled}
use Rattle.listing.proofs.lines.put_signs.Given as goal

abbrev pub invariant-loop-set : goal.invariant-loop-set
invariant-loop-set l = Put l.at (flat_map (labelled (ascii " ")) (tabulate l.set-index (λ i. get_or l.signs i 0))) l.initial.out l.out l.after
