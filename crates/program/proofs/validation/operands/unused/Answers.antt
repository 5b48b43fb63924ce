-- `program::validation::operands::unused` meets its contract.
use borrow.Author.Tests.{eq-eqb, ne_eqb}
use mathlib.Core.Path.{refl}
use Rattle.program.specs.Questions.{named, points, refers_to}
use Rattle.program.proofs.Checking.{named_checked, unnamed_checked}
use Rattle.program.proofs.validation.operands.unused.Goals as goal

pub returns-then-x-eq0 : goal.returns-then-x-eq0
unfolding named points refers_to
returns-then-x-eq0 c = λ s t n counts. named_checked s t n _ _ refl (λ u k. refl) (eq-eqb _ _ c.if-x-eq0.true)

pub returns-else-x-eq0 : goal.returns-else-x-eq0
unfolding named points refers_to
returns-else-x-eq0 c = λ s t n counts. unnamed_checked s t n _ _ refl (λ u k. refl) (ne_eqb _ _ c.if-x-eq0.false)
