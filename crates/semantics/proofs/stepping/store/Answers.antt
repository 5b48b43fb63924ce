-- `stepping::store`: by the effect's cases.
use borrow.Author.Rules.{rules}
use mathlib.Core.List.{List}
use mathlib.Core.Path.{◌≡◌, refl, ap, sym}
use Prim.Native.Nat.{ℕ}
use lib.IntN.{ℤ}
use lib.ListN.{set}
use lib.Seq.{set_out}
use mir.Syntax.{w32}
use mir.ValLaws.{to_z-of_z}
use Rattle.semantics.specs.Action.{after}
use Rattle.semantics.specs.declared.Effect.{Effect}
use Rattle.semantics.specs.declared.Effect.TheVariants.{Undefined, Unchanged, Stored}
use Rattle.semantics.proofs.stepping.store.Goals as goal

-- what stores nothing leaves the memory
kept : (m : List ℤ) (x : Effect) → ((c : ℕ) (z : ℤ) → x ≡ Stored c z → ⊥) → m ≡ after m x
unfolding after
kept m (Undefined f) h = refl
kept m Unchanged h = refl
kept m (Stored c z) h = absurd (h c z refl)

pub returns-in_default : goal.returns-in_default
returns-in_default c = kept _ _ c.in_default.not-Stored

pub returns-then-cell-memory : goal.returns-then-cell-memory
unfolding after
returns-then-cell-memory c =
    rw c.in-Stored.is (ap (set c.args.memory.now c.in-Stored.cell) (to_z-of_z w32 c.in-Stored.value (search rules)))

pub returns-else-cell-memory : goal.returns-else-cell-memory
unfolding after
returns-else-cell-memory c =
    rw c.in-Stored.is (sym (set_out c.args.memory.now c.in-Stored.cell _ c.if-cell-memory.false))
