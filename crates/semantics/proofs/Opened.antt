-- A node whose lowest edge is a guard's of the deterministic graph: how following the links meets it, and its edges as conditions that are tested guard by guard.
use mathlib.Core.Path.{◌≡◌, sym, subst, ◌∙◌}
use mathlib.Core.Bool.{true, false, false≢true}
use mathlib.Core.List.{List}
use Prim.Native.Nat.{ℕ, ◌<◌}
use native.Mathlib.Decide.{ℕ_discrete, dec_lt}
use native.Mathlib.Omega.{arith}
use borrow.Author.Tests.{eqb-true}
use lib.Dec.{eqb}
use lib.ListN.{length, get_or}
use Rattle.program.specs.Graph.{Graph, edge_at}
use Rattle.program.specs.Meaning.{meaning}
use Rattle.program.specs.Parts.Prepared.{edge_count_place, entries_in, source_in, action_in, is_guard_node, own_in, guards_in, Prepared, Following}
use Rattle.program.proofs.Laws.{guard_lower, guard_guarded, later_guarded}
use Rattle.program.proofs.Selecting.{Guarded}
use Rattle.semantics.specs.Parts.Selecting.{Opens}

module _ {ns : List ℕ} {g : Graph} {code graph : List ℕ} (p : Prepared ns g code graph) {node : ℕ} where
  -- an edge is the lowest out of its node, where it is such a guard's and none before it is
  pub opens : {e : ℕ} → Following graph node (λ k. is_guard_node (action_in graph k) ≡ false) e → e < get_or graph edge_count_place 0 → is_guard_node (action_in graph e) ≡ true → Opens graph node e
  opens {e} at h t = record { here = at.here h; guard = t; none = lower }
    where
      lower : (k : ℕ) → k < e → eqb (source_in graph k) node ≡ true → ⊥
      lower k l s =
          let there : k < length g.edges = omega (arith, p.edges) in
          let source : (edge_at g k).source ≡ (edge_at g e).source = sym (p.edge k there).source ∙ eqb-true _ node s ∙ sym (at.here h) ∙ (p.edge e (omega (arith, p.edges))).source in
          false≢true (sym (at.before k l (omega arith) s) ∙ guard_lower p e k (omega (arith, p.edges)) l source t)

  -- each edge out of it: those of the lower edges fail, and its own holds
  pub guarded : {first : ℕ} → Opens graph node first → (f : ℕ) → f < length g.edges → eqb (source_in graph f) node ≡ true
      → Guarded (meaning (edge_at g f).action) (guards_in (entries_in code graph) graph node f) (own_in (entries_in code graph) (action_in graph f))
  guarded {first} opened f h here =
      let source = eqb-true (source_in graph f) node here in
      subst (λ (n : ℕ). Guarded (meaning (edge_at g f).action) (guards_in (entries_in code graph) graph n f) (own_in (entries_in code graph) (action_in graph f))) source
      (elim (dec_lt first f) [
        | yes l ↦ later_guarded p first f l h (sym (p.edge first (omega arith)).source ∙ opened.here ∙ sym source ∙ (p.edge f h).source) opened.guard
        | no l ↦
            elim (ℕ_discrete f first) [
              | yes e ↦ guard_guarded p f h (rw e opened.guard)
              | no e ↦ absurd (opened.none f (omega arith) here)
            ]
      ])
