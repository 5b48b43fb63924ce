-- `stepping::settled`: by the effect's cases.
use mathlib.Core.List.{List}
use mathlib.Core.Path.{◌≡◌, refl}
use Prim.Native.Nat.{ℕ, ◌+◌, min}
use lib.IntN.{ℤ}
use Rattle.semantics.specs.Action.{after}
use Rattle.semantics.specs.Step.{outcome_by}
use Rattle.semantics.specs.Parts.Stepping.{run_after, Settled}
use Rattle.semantics.specs.declared.Effect.{Effect}
use Rattle.semantics.specs.declared.Effect.TheVariants.{Undefined, Unchanged, Stored}
use Rattle.semantics.specs.declared.Fault.{Fault}
use Rattle.semantics.specs.declared.Outcome.TheVariants.{Taken}
use Rattle.semantics.specs.declared.Run.{Run}
use Rattle.semantics.proofs.stepping.settled.Goals as goal

pub returns-in-Undefined : goal.returns-in-Undefined
unfolding outcome_by run_after
returns-in-Undefined c = let told = c.in-Undefined.is in record { handed_back = rw told; answer = rw told; memory = c.store.ensures }

-- an effect that is defined
taken : (run : Run) (target : ℕ) (x : Effect) (before m : List ℤ) (to : Run) → ((f : Fault) → x ≡ Undefined f → ⊥) → m ≡ after before x
    → to ≡ record { node = target; count = min (run.count + 1) 65535 } → Settled run target x before m (record { run = to; outcome = Taken })
unfolding outcome_by run_after
taken run target (Undefined f) before m to h p q = absurd (h f refl)
taken run target Unchanged before m to h p q = record { handed_back = q; answer = refl; memory = p }
taken run target (Stored c z) before m to h p q = record { handed_back = q; answer = refl; memory = p }

pub returns-in_default : goal.returns-in_default
returns-in_default c = taken _ _ _ _ _ _ c.in_default.not-Undefined c.store.ensures c.moved.ensures
