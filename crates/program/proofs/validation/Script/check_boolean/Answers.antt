-- `program::validation::Script::check_boolean` meets its contract.
use mathlib.Core.Path.{refl, sym, ap}
use native.Mathlib.Omega.{arith}
use Rattle.program.specs.Kind.{shape, kinds, table_of}
use Rattle.program.specs.Questions.{same_table}
use Rattle.program.specs.declared.Table.TheVariants.{Boolean}
use Rattle.program.proofs.Checking.{own_limit, expressions_limit, unknown_checked}
use Rattle.program.proofs.Shapes.{comparisons, conjunctions, unknown_boolean}
use Rattle.program.proofs.validation.Script.check_boolean.Goals as goal

pub returns-in-0 : goal.returns-in-0
unfolding shape kinds
returns-in-0 c = c.no_operand.ensures _ Boolean _ _ c.requires (ap (shape Boolean) c.in-0.is)

pub returns-in-6 : goal.returns-in-6
unfolding shape kinds table_of
returns-in-6 c = c.one_reference.ensures Boolean _ (own_limit _ Boolean _) c.requires (ap (shape Boolean) c.in-6.is)

pub returns-in-1-to-3 : goal.returns-in-1-to-3
unfolding table_of same_table
returns-in-1-to-3 c = c.two_references.ensures Boolean _ (expressions_limit _ _ c.args.self.laid_out Boolean _ refl) c.requires (sym (comparisons _ (omega arith) (omega arith)))

pub returns-in-4-to-5 : goal.returns-in-4-to-5
unfolding table_of
returns-in-4-to-5 c = c.two_references-in-4-to-5.ensures Boolean _ (own_limit _ Boolean _) c.requires (sym (conjunctions _ (omega arith) (omega arith)))

pub returns-in_default : goal.returns-in_default
returns-in_default c = unknown_checked _ Boolean _ c.requires (sym (unknown_boolean _ (omega arith))) c.ask.ensures
