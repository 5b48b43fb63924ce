-- `program::validation::Script::check_arithmetic` meets its contract.
use mathlib.Core.Path.{sym, ap}
use native.Mathlib.Omega.{arith}
use Rattle.program.specs.Kind.{shape, kinds, table_of}
use Rattle.program.specs.declared.Table.TheVariants.{Arithmetic}
use Rattle.program.proofs.Checking.{own_limit, half_checked, known_checked, unknown_checked}
use Rattle.program.proofs.Shapes.{operators, unknown_arithmetic}
use Rattle.program.proofs.validation.Script.check_arithmetic.Goals as goal

pub returns-in-0 : goal.returns-in-0
unfolding shape kinds
returns-in-0 c = known_checked _ Arithmetic _ c.requires (ap (shape Arithmetic) c.in-0.is) (half_checked _ Arithmetic _ _) (half_checked _ Arithmetic _ _) (c.unused-r.ensures _ _ _ _) c.settled.ensures

pub returns-in-1 : goal.returns-in-1
unfolding shape kinds
returns-in-1 c = known_checked _ Arithmetic _ c.requires (ap (shape Arithmetic) c.in-1.is) (c.variable-p.ensures _ _ _) (c.unused-q.ensures _ _ _ _) (c.unused-r-in-1.ensures _ _ _ _) c.settled-in-1.ensures

pub returns-in-2 : goal.returns-in-2
unfolding shape kinds table_of
returns-in-2 c = known_checked _ Arithmetic _ c.requires (ap (shape Arithmetic) c.in-2.is) (c.array-p.ensures _ _ _) (c.reference-q.ensures _ _ (own_limit _ Arithmetic _)) (c.unused-r-in-2.ensures _ _ _ _) c.settled-in-2.ensures

pub returns-in-3-to-7 : goal.returns-in-3-to-7
unfolding table_of
returns-in-3-to-7 c = c.two_references.ensures Arithmetic _ (own_limit _ Arithmetic _) c.requires (sym (operators _ (omega arith) (omega arith)))

pub returns-in_default : goal.returns-in_default
returns-in_default c = unknown_checked _ Arithmetic _ c.requires (sym (unknown_arithmetic _ (omega arith))) c.ask.ensures
