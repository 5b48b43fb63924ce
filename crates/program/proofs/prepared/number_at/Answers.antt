-- `prepared::number_at` meets its contract.
use borrow.Author.Rules.{rules}
use borrow.Author.Tests.{le-ltb}
use mathlib.Core.Path.{sym, ◌∙◌}
use native.Mathlib.Omega.{arith}
use mir.Syntax.{w32}
use mir.ValLaws.{to_z-of_z}
use Rattle.program.specs.Parts.Prepared.{number_of, number_in}
use Rattle.program.proofs.Readings.{number_told}
use Rattle.program.proofs.prepared.number_at.Goals as goal

pub returns-then-n-ge-EXPRESSIONS : goal.returns-then-n-ge-EXPRESSIONS
unfolding number_in
returns-then-n-ge-EXPRESSIONS c = rw (le-ltb _ _ c.if-n-ge-EXPRESSIONS.true)

pub returns-in-Number : goal.returns-in-Number
unfolding number_of
returns-in-Number c =
    to_z-of_z w32 _ (search rules) ∙ sym (number_told _ _ c.if-n-ge-EXPRESSIONS.false c.arith_at.ensures c.in-Number.is)

pub returns-in_default : goal.returns-in_default
unfolding number_in number_of
returns-in_default c = grind (arith, c.arith_at.ensures)
