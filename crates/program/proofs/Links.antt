-- The lowest of some edges that leaves a node.
use mathlib.Core.Path.{◌≡◌, refl, sym, ap, ◌∙◌}
use mathlib.Core.Bool.{Bool, true, false, cond}
use Prim.Native.Nat.{ℕ, zero, suc, ◌+◌, ◌<◌, ◌≤◌}
use native.Mathlib.Decide.{ℕ_discrete}
use native.Mathlib.Omega.{arith}
use borrow.Author.Tests.{eqb-true, eq-eqb, ne_eqb}
use lib.Dec.{eqb}
use Rattle.program.specs.Parts.Prepared.{lowest_from}

module _ (source : ℕ → ℕ) where
  -- an edge that leaves the node is the lowest; another is passed over
  pub lowest_here : (n i node : ℕ) → source i ≡ node → lowest_from (suc n) source i node ≡ i
  unfolding lowest_from
  lowest_here n i node e = rw (eq-eqb (source i) node e)

  pub lowest_beyond : (n i node : ℕ) → (source i ≡ node → ⊥) → lowest_from (suc n) source i node ≡ lowest_from n source (suc i) node
  unfolding lowest_from
  lowest_beyond n i node d = rw (ne_eqb (source i) node d)

  -- what is between: no edge before the lowest leaves the node, the lowest does, and it is not below i
  pub lowest_at_least : (n i node : ℕ) → i + n ≤ 255 → i ≤ lowest_from n source i node
  unfolding lowest_from
  lowest_at_least zero i node h = omega arith
  lowest_at_least (suc n) i node h = by (lowest_at_least n (suc i) node (omega arith)) (eqb (source i) node)
    where
      by : suc i ≤ lowest_from n source (suc i) node → (b : Bool) → i ≤ cond b i (lowest_from n source (suc i) node)
      by later true = omega arith
      by later false = omega arith

  pub lowest_leaves : (n i node : ℕ) → lowest_from n source i node < 255 → source (lowest_from n source i node) ≡ node
  unfolding lowest_from
  lowest_leaves zero i node h = absurd (omega arith)
  lowest_leaves (suc n) i node h = by (lowest_leaves n (suc i) node) (eqb (source i) node) refl h
    where
      by : (lowest_from n source (suc i) node < 255 → source (lowest_from n source (suc i) node) ≡ node)
          → (b : Bool) → eqb (source i) node ≡ b → cond b i (lowest_from n source (suc i) node) < 255 → source (cond b i (lowest_from n source (suc i) node)) ≡ node
      by later true e h = eqb-true (source i) node e
      by later false e h = later h

  pub lowest_passes : (n i node j : ℕ) → i ≤ j → j < i + n → j < lowest_from n source i node → eqb (source j) node ≡ false
  unfolding lowest_from
  lowest_passes zero i node j a b h = absurd (omega arith)
  lowest_passes (suc n) i node j a b h = by (λ l. lowest_passes n (suc i) node j l (omega arith)) (eqb (source i) node) refl h
    where
      by : (suc i ≤ j → j < lowest_from n source (suc i) node → eqb (source j) node ≡ false)
          → (v : Bool) → eqb (source i) node ≡ v → j < cond v i (lowest_from n source (suc i) node) → eqb (source j) node ≡ false
      by later true e h = absurd (omega arith)
      by later false e h =
          elim (ℕ_discrete i j) [
            | yes p ↦ ap (λ (k : ℕ). eqb (source k) node) (sym p) ∙ e
            | no d ↦ later (omega arith) h
          ]
