-- `program::validation::Script::check_command` meets its contract.
use mathlib.Core.Path.{refl, sym, ap}
use native.Mathlib.Omega.{arith}
use Rattle.program.specs.Kind.{shape, kinds, table_of}
use Rattle.program.specs.Questions.{same_table}
use Rattle.program.specs.declared.Table.TheVariants.{Commands}
use Rattle.program.proofs.Checking.{own_limit, expressions_limit, conditions_limit, known_checked, unknown_checked}
use Rattle.program.proofs.Shapes.{constructs, jumps, unknown_command}
use Rattle.program.proofs.validation.Script.check_command.Goals as goal

pub returns-in-0 : goal.returns-in-0
unfolding shape kinds
returns-in-0 c = c.no_operand.ensures _ Commands _ _ c.requires (ap (shape Commands) c.in-0.is)

pub returns-in-1 : goal.returns-in-1
unfolding shape kinds table_of same_table
returns-in-1 c =
    known_checked _ Commands _ c.requires (ap (shape Commands) c.in-1.is)
    (c.variable-p.ensures _ _ _)
    (c.reference-q.ensures _ _ (expressions_limit _ _ c.args.self.laid_out Commands _ refl))
    (c.unused-r.ensures _ _ _ _)
    c.settled.ensures

pub returns-in-2 : goal.returns-in-2
unfolding shape kinds table_of same_table
returns-in-2 c =
    known_checked _ Commands _ c.requires (ap (shape Commands) c.in-2.is)
    (c.array-p.ensures _ _ _)
    (c.reference-q-in-2.ensures _ _ (expressions_limit _ _ c.args.self.laid_out Commands _ refl))
    (c.reference-r.ensures _ _ (expressions_limit _ _ c.args.self.laid_out Commands _ refl))
    c.settled-in-2.ensures

pub returns-in-3 : goal.returns-in-3
unfolding shape kinds table_of
returns-in-3 c = c.two_references.ensures Commands _ (own_limit _ Commands _) c.requires (ap (shape Commands) c.in-3.is)

pub returns-in-6 : goal.returns-in-6
unfolding shape kinds table_of
returns-in-6 c =
    known_checked _ Commands _ c.requires (ap (shape Commands) c.in-6.is)
    (c.reference-p.ensures _ _ (conditions_limit _ _ c.args.self.laid_out _))
    (c.reference-q-in-6.ensures _ _ (own_limit _ Commands _))
    (c.unused-r-in-6.ensures _ _ _ _)
    c.settled-in-6.ensures

pub returns-in-7 : goal.returns-in-7
unfolding shape kinds table_of
returns-in-7 c = c.two_references-in-7.ensures Commands _ (own_limit _ Commands _) c.requires (ap (shape Commands) c.in-7.is)

pub returns-in-4-to-5 : goal.returns-in-4-to-5
unfolding table_of
returns-in-4-to-5 c = c.one_reference.ensures Commands _ (own_limit _ Commands _) c.requires (sym (constructs _ (omega arith) (omega arith)))

pub returns-in-8-to-9 : goal.returns-in-8-to-9
returns-in-8-to-9 c = c.no_operand-in-8-to-9.ensures _ Commands _ _ c.requires (sym (jumps _ (omega arith) (omega arith)))

pub returns-in_default : goal.returns-in_default
returns-in_default c = unknown_checked _ Commands _ c.requires (sym (unknown_command _ (omega arith))) c.ask.ensures
