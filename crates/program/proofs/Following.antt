-- What following the links of a prepared graph passes over.
use mathlib.Core.Path.{◌≡◌, sym, ap, subst, ◌∙◌}
use mathlib.Core.Bool.{true, false}
use mathlib.Core.List.{List}
use Prim.Native.Nat.{ℕ, suc, ◌+◌, ◌-◌, ◌<◌}
use native.Mathlib.Decide.{ℕ_discrete, dec_le}
use native.Mathlib.Omega.{arith}
use lib.Dec.{eqb}
use lib.ListN.{get_or}
use Rattle.program.specs.Parts.Prepared.{lowest_from, edge_count_place, source_in, first_in, next_in, Linked, Following}
use Rattle.program.proofs.Links.{lowest_at_least, lowest_leaves, lowest_passes}

-- following the links of a node
module _ {graph : List ℕ} (f : Linked graph) where
  abbrev count : ℕ
  count = get_or graph edge_count_place 0

  -- a next edge is beyond the last
  pub next_beyond : (e : ℕ) → e < count → e < next_in graph e
  next_beyond e h =
      let far = lowest_at_least (source_in graph) (count - suc e) (suc e) (source_in graph e) (omega (arith, f.few)) in
      omega (arith, f.later e h)

  -- where n edges from i on, the last of `count`, are next looked at, the lowest of them that leaves the node follows
  follows : (node : ℕ) (P : ℕ → Type 0) (m i e : ℕ) → i + m ≡ count → e ≡ lowest_from m (source_in graph) i node
      → ((k : ℕ) → k < i → eqb (source_in graph k) node ≡ true → P k) → Following graph node P e
  follows node P m i e all p earlier =
      record {
        here = λ h. ap (source_in graph) p ∙ lowest_leaves (source_in graph) m i node (omega (arith, f.few));
        before = at;
      }
    where
      at : (k : ℕ) → k < e → k < count → eqb (source_in graph k) node ≡ true → P k
      at k h l t =
          elim (dec_le (suc k) i) [
            | yes b ↦ earlier k b t
            | no b ↦
                let other : true ≡ false = sym t ∙ lowest_passes (source_in graph) m i node k (omega arith) (omega arith) (omega arith) in
                absurd (let z : ◌≡◌ {A = ℕ} 0 1 = cc in omega arith)
          ]

  pub first_followed : (node : ℕ) (P : ℕ → Type 0) → node < 129 → Following graph node P (first_in graph node)
  first_followed node P h = follows node P count 0 (first_in graph node) (omega arith) (f.lowest node h) (λ k l. absurd (omega arith))

  pub next_followed : (node : ℕ) (P : ℕ → Type 0) (e : ℕ) → e < count → Following graph node P e → P e → Following graph node P (next_in graph e)
  next_followed node P e h at now =
      follows node P (count - suc e) (suc e) (next_in graph e) (omega arith)
      (f.later e h ∙ ap (lowest_from (count - suc e) (source_in graph) (suc e)) (at.here h)) earlier
    where
      earlier : (k : ℕ) → k < suc e → eqb (source_in graph k) node ≡ true → P k
      earlier k l t = elim (ℕ_discrete k e) [ yes p ↦ subst P (sym p) now | no d ↦ at.before k (omega arith) (omega arith) t ]
