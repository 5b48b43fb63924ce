-- `program::validation::Script::array` meets its contract.
use borrow.Author.Tests.{lt-ltb, le-ltb}
use mathlib.Core.Path.{refl}
use Rattle.program.specs.Questions.{named, points, refers_to}
use Rattle.program.proofs.Cells.{array_at, no_array}
use Rattle.program.proofs.Reading.{laid_names}
use Rattle.program.proofs.Checking.{named_checked, unnamed_checked}
use Rattle.program.proofs.validation.Script.array.Goals as goal
use Rattle.program.proofs.validation.Script.array.Goals.{else-x-self-via-then-x-self+else-size_at-gt0, else-x-self-via-else-x-self}

pub returns-then-size_at-gt0 : goal.returns-then-size_at-gt0
unfolding named points refers_to
returns-then-size_at-gt0 c = λ t n counts. named_checked _ t n _ _ refl (λ u k. refl) (rw (array_at _ _ _ (laid_names _ _ c.args.self.laid_out.same) c.if-x-self.true, ← c.size_at.ensures) (lt-ltb _ _ c.if-size_at-gt0.true))

pub returns-else-x-self : goal.returns-else-x-self
unfolding named points refers_to
returns-else-x-self c = λ t n counts. unnamed_checked _ t n _ _ refl (λ u k. refl) (
    elim c.else-x-self.branch [
      | else-x-self-via-then-x-self+else-size_at-gt0 w ↦ rw (array_at _ _ _ (laid_names _ _ c.args.self.laid_out.same) w.if-x-self.true, ← w.size_at.ensures) (le-ltb _ _ w.if-size_at-gt0.false)
      | else-x-self-via-else-x-self w ↦ no_array _ _ _ (laid_names _ _ c.args.self.laid_out.same) w.if-x-self.false
    ])
