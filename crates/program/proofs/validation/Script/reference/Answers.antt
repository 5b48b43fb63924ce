-- `program::validation::Script::reference` meets its contract.
use borrow.Author.Tests.{lt-ltb, le-ltb}
use mathlib.Core.Path.{refl}
use Rattle.program.specs.Questions.{named, points}
use Rattle.program.proofs.Checking.{pointing_checked, astray_checked}
use Rattle.program.proofs.validation.Script.reference.Goals as goal
use Rattle.program.proofs.validation.Script.reference.Goals.{else-x-limit-via-then-x-limit+else-of_sort, else-x-limit-via-else-x-limit}

pub returns-then-of_sort : goal.returns-then-of_sort
unfolding named points
returns-then-of_sort c = λ t n e. pointing_checked _ t n _ _ refl (rw (← e, lt-ltb _ _ c.if-x-limit.true, ← c.of_sort.ensures) c.if-of_sort.true) c.count_reference.ensures

pub returns-else-x-limit : goal.returns-else-x-limit
unfolding named points
returns-else-x-limit c = λ t n e. astray_checked _ t n _ _ refl (
    elim c.else-x-limit.branch [
      | else-x-limit-via-then-x-limit+else-of_sort w ↦ rw (← e, lt-ltb _ _ w.if-x-limit.true, ← w.of_sort.ensures) w.if-of_sort.false
      | else-x-limit-via-else-x-limit w ↦ rw (← e, le-ltb _ _ w.if-x-limit.false)
    ])
