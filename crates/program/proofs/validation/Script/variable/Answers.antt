-- `program::validation::Script::variable` meets its contract.
use borrow.Author.Tests.{eq-eqb, ne_eqb}
use mathlib.Core.Path.{refl}
use Rattle.program.specs.Questions.{named, points, refers_to}
use Rattle.program.proofs.Cells.{variable_at, no_variable}
use Rattle.program.proofs.Reading.{laid_names}
use Rattle.program.proofs.Checking.{named_checked, unnamed_checked}
use Rattle.program.proofs.validation.Script.variable.Goals as goal
use Rattle.program.proofs.validation.Script.variable.Goals.{else-x-self-via-then-x-self+else-size_at-eq0, else-x-self-via-else-x-self}

pub returns-then-size_at-eq0 : goal.returns-then-size_at-eq0
unfolding named points refers_to
returns-then-size_at-eq0 c = λ t n counts. named_checked _ t n _ _ refl (λ u k. refl) (rw (variable_at _ _ _ (laid_names _ _ c.args.self.laid_out.same) c.if-x-self.true, ← c.size_at.ensures) (eq-eqb _ _ c.if-size_at-eq0.true))

pub returns-else-x-self : goal.returns-else-x-self
unfolding named points refers_to
returns-else-x-self c = λ t n counts. unnamed_checked _ t n _ _ refl (λ u k. refl) (
    elim c.else-x-self.branch [
      | else-x-self-via-then-x-self+else-size_at-eq0 w ↦ rw (variable_at _ _ _ (laid_names _ _ c.args.self.laid_out.same) w.if-x-self.true, ← w.size_at.ensures) (ne_eqb _ _ w.if-size_at-eq0.false)
      | else-x-self-via-else-x-self w ↦ no_variable _ _ _ (laid_names _ _ c.args.self.laid_out.same) w.if-x-self.false
    ])
