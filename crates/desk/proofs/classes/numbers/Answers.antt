-- `classes::numbers`: each number is read back.
use Rattle.std.proofs.Common.{arith}
use Rattle.std.proofs.lemmas.Int.{to_z-of_z}
use Rattle.figures.specs.Figures.{class_numbers, totals_numbers, fraction_numbers}
use Rattle.desk.proofs.classes.numbers.Goals as goal

pub returns : goal.returns
unfolding class_numbers totals_numbers fraction_numbers
returns c = grind (arith, to_z-of_z)
