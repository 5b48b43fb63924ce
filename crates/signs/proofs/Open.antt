-- `unfolding definitions` opens every definition of `signs` to a proof that goes by computation.
use mathlib.Core.List.{flat_map, flatten, sum}
use Rattle.signs.specs.Lists
use Rattle.signs.specs.Number
use Rattle.signs.specs.Sign
use Rattle.signs.specs.Grid
use Rattle.signs.specs.Truth
use Rattle.signs.specs.Case
use Rattle.signs.specs.Examples

unfoldable pub definitions : Unit {0}
unfolding Lists.any_of Lists.all_of Lists.passing Lists.tabulate flat_map flatten Lists.pairs Lists.indices sum Number.reason_number Number.value_numbers Number.in_range Number.exact Number.equal Number.power Number.quotient Number.raised Number.apply Number.value_row Number.compares Sign.sign_of Sign.single Sign.signs Sign.has Sign.set_of Sign.members Sign.unite Sign.union_all Sign.added Sign.removed Grid.grids Grid.grid_number Grid.sign_number Grid.grid Grid.operate Grid.operators Grid.set_rows Grid.set_table Grid.set_place Grid.operate_by Truth.truths_of Truth.among Truth.answers Truth.samples Truth.compare_signs Truth.compare_sets Truth.certain Truth.negated Truth.conjoined Truth.and_then Case.same Case.holds Case.all_hold Case.flag Examples.number_cases Examples.sign_cases Examples.cases
definitions = tt
