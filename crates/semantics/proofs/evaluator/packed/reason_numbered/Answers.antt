-- `evaluator::packed::reason_numbered`: each arm is the list's element at its number.
use mathlib.Core.Path.{◌≡◌, sym}
use mathlib.Core.List.{[], ◌∷◌}
use mathlib.Core.Logic.{⊎_elim}
use Prim.Native.Nat.{◌-◌, ◌≤◌}
use native.Mathlib.Nat.{eq-or-lt_of_le}
use native.Mathlib.Omega.{arith}
use lib.ListN.{get_or-eq_default}
use Rattle.signs.specs.declared.Reason.TheVariants.{ConditionFalse, DivisorZero, ExponentNegative, IndexNegative, IndexTooLarge, OutOfRange}
use Rattle.semantics.specs.Parts.Coding.{reason_numbered}
use Rattle.semantics.proofs.evaluator.packed.reason_numbered.Goals as goal

pub returns-then-k-le31 : goal.returns-then-k-le31
unfolding reason_numbered
returns-then-k-le31 c = let e : c.args.k - 31 ≡ 0 = omega (arith, c.if-k-le31.true) in rw e

pub returns-in-32 : goal.returns-in-32
unfolding reason_numbered
returns-in-32 c = rw c.in-32.is

pub returns-in-33 : goal.returns-in-33
unfolding reason_numbered
returns-in-33 c = rw c.in-33.is

pub returns-in-34 : goal.returns-in-34
unfolding reason_numbered
returns-in-34 c = rw c.in-34.is

pub returns-in-35 : goal.returns-in-35
unfolding reason_numbered
returns-in-35 c = rw c.in-35.is

pub returns-in_default : goal.returns-in_default
unfolding reason_numbered
returns-in_default c =
    let k = c.args.k in
    let high : 36 ≤ k = omega arith in
    ⊎_elim
    (λ e. rw (← e))
    (λ h.
    let past : 6 ≤ k - 31 = omega arith in
    sym (get_or-eq_default (ConditionFalse ∷ DivisorZero ∷ ExponentNegative ∷ IndexNegative ∷ IndexTooLarge ∷ OutOfRange ∷ []) OutOfRange past))
    (eq-or-lt_of_le high)
