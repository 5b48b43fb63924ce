-- Laws of noting whether an entry may be a jump, for question 20.
use mathlib.Core.Path.{ap, ◌∙◌}
use mathlib.Core.Bool.{Bool}
use mathlib.Core.List.{List}
use Prim.Native.Nat.{ℕ, suc}
use native.Mathlib.Decide.{ℕ_discrete}
use native.Mathlib.Omega.{arith}
use Rattle.program.specs.Parts.Jumping.{may_jump, Noted, NotedTo}
use Rattle.program.specs.declared.Table.{Table}

module _ {s : List ℕ} {t : Table} where
  pub noted_none : {a : Bool} → NotedTo s t 0 a a
  noted_none = record { clear = λ e. (e, λ k h. absurd (omega arith)) }

  pub noted_next : {a b c : Bool} (n : ℕ) → NotedTo s t n a b → Noted (may_jump s t n) b c → NotedTo s t (suc n) a c
  noted_next n first next =
      record {
        clear = λ e.
            let here = next.clear e in
            let before = first.clear here.0 in
            (before.0, λ k h. elim (ℕ_discrete k n) [ yes p ↦ ap (may_jump s t) p ∙ here.1 | no q ↦ before.1 k (omega arith) ]);
      }

-- a table after another: what is clear in the end was clear between them
pub noted_then : {s : List ℕ} {t u : Table} {n m : ℕ} {a b c : Bool} → NotedTo s t n a b → NotedTo s u m b c → NotedTo s u m a c
noted_then first second = record { clear = λ e. let last = second.clear e in ((first.clear last.0).0, last.1) }
