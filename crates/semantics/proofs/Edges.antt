-- The edges of a prepared graph are the graph's: which node they leave, and what they do.
use Rattle.std.specs.Prelude.{None, Some}
use mathlib.Core.Path.{◌≡◌, refl, sym, ap, subst, ◌∙◌}
use mathlib.Core.Bool.{Bool, true, false, ◌&&◌}
use mathlib.Core.List.{List}
use Prim.Native.Nat.{ℕ, ◌+◌, ◌≤◌, ◌<◌}
use native.Mathlib.Omega.{arith}
use borrow.Author.Tests.{lt-ltb, le-ltb, eq-eqb}
use lib.Dec.{T, eqb}
use lib.IntN.{ℤ, pos}
use lib.ListN.{length, get_or}
use lib.Seq.{get_or-set_other}
use Rattle.program.specs.File.{cell_count}
use Rattle.program.specs.FirstSuch.{first_such}
use Rattle.program.specs.Graph.{Graph, edge_at}
use Rattle.program.specs.Meaning.{Meaning, meaning}
use Rattle.program.specs.Parts.Prepared.{edge_count_place, entries_in, source_in, action_in, decoded_meaning, is_guard_node, guards_in, edge_meaning, Prepared, Following}
use Rattle.program.specs.Parts.Sorted.{meaning_named}
use Rattle.program.proofs.Laws.{first_such_lem, none_such, after_other, edge_meaning_lem}
use Rattle.semantics.specs.Action.{effect, after}
use Rattle.semantics.specs.Parts.Cells.{NumbersIn, Placed}
use Rattle.semantics.specs.Parts.Coding.{EffectIn, Follows, Performs}
use Rattle.semantics.specs.Expression.{cell_value}
use Rattle.semantics.specs.Step.{leaves, edge_effect}
use Rattle.semantics.specs.declared.Effect.{Effect}
use Rattle.semantics.specs.declared.Effect.TheVariants.{Undefined as Fails, Unchanged, Stored}
use Rattle.semantics.proofs.Named.{stores_inside, effect_same}

-- a store before the numbers leaves them as they are
numbers_after : (code : List ℕ) (m : List ℤ) (x : Effect) → NumbersIn code m → ((k : ℕ) (z : ℤ) → x ≡ Stored k z → k < 512) → NumbersIn code (after m x)
unfolding after cell_value
numbers_after code m (Fails f) n inside = n
numbers_after code m Unchanged n inside = n
numbers_after code m (Stored k z) n inside =
    record { number = λ i h. get_or-set_other m k (512 + i) z (pos 0) (λ e. omega (arith, inside k z refl)) ∙ n.number i h }

module _ {ns : List ℕ} {g : Graph} {code graph : List ℕ} (p : Prepared ns g code graph) where
  -- past the last edge there is none; an edge leaves the node that it comes from
  pub no_edge : (e node : ℕ) → get_or graph edge_count_place 0 ≤ e → false ≡ leaves g e node
  unfolding leaves
  no_edge e node h = rw (le-ltb e (length g.edges) (omega (arith, p.edges)))

  pub edge_leaves : (e node : ℕ) → e < get_or graph edge_count_place 0 → eqb (source_in graph e) node ≡ leaves g e node
  unfolding leaves
  edge_leaves e node h =
      let there : e < length g.edges = omega (arith, p.edges) in
      rw (lt-ltb e (length g.edges) there) (ap (λ (s : ℕ). eqb s node) (p.edge e there).source)

  -- the first edge out of a node that passes a test, as following the links finds it; and that there is none
  module _ (node : ℕ) (q : ℕ → Bool) (e : ℕ) (at : Following graph node (λ k. q k ≡ false) e) where
    fails : (k : ℕ) → k < e → k < get_or graph edge_count_place 0 → (leaves g k node && q k) ≡ false
    fails k h l = by (eqb (source_in graph k) node) refl
      where
        by : (b : Bool) → eqb (source_in graph k) node ≡ b → (leaves g k node && q k) ≡ false
        by true t = rw (sym (edge_leaves k node l), t) (at.before k h l t)
        by false t = rw (sym (edge_leaves k node l), t)

    pub first_leaving : e < get_or graph edge_count_place 0 → q e ≡ true → first_such (length g.edges) (λ k. leaves g k node && q k) ≡ Some e
    first_leaving h t =
        first_such_lem _ _ e
        (record {
          below = omega (arith, p.edges);
          passes = rw (sym (edge_leaves e node h), eq-eqb (source_in graph e) node (at.here h)) t;
          before = λ k l. fails k l (omega arith);
        })

    pub none_leaving : get_or graph edge_count_place 0 ≤ e → first_such (length g.edges) (λ k. leaves g k node && q k) ≡ None
    none_leaving h = none_such _ _ (λ k l. fails k (omega (arith, p.edges)) (omega (arith, p.edges)))

  module _ (e : ℕ) (h : e < length g.edges) where
    meaning_there : {x : Meaning} → x ≡ meaning (edge_at g e).action → T (meaning_named ns x)
    meaning_there q = subst (λ (y : Meaning). T (meaning_named ns y)) (sym q) (p.edge e h).named

    -- the effect of an edge as the code finds it, and as it performs it where it is no guard's of the deterministic graph
    pub edge_effect_lem : {m : List ℤ} → NumbersIn code m → {r : Effect} → EffectIn code m (edge_meaning (entries_in code graph) graph e) r → r ≡ edge_effect ns g m e
    unfolding edge_effect
    edge_effect_lem {m} numbers found =
        let means = edge_meaning_lem p e h in
        found.gives ns (record { coded = p.coded; numbers = numbers }) (meaning_there means) ∙ ap (effect ns m) means

    pub edge_performs : is_guard_node (action_in graph e) ≡ false → {m m' : List ℤ} → NumbersIn code m → {r : Bool} → Performs code m (decoded_meaning (entries_in code graph) (action_in graph e)) r m'
        → Follows m (edge_effect ns g m e) r m'
    unfolding edge_effect edge_meaning
    edge_performs t {m} {m'} numbers {r} found =
        let means = sym (after_other (entries_in code graph) (guards_in (entries_in code graph) graph (source_in graph e) e) (action_in graph e) t) ∙ edge_meaning_lem p e h in
        subst (λ (x : Meaning). Follows m (effect ns m x) r m') means (found.gives ns (record { coded = p.coded; numbers = numbers }) (meaning_there means))

    -- it is the same in memories with the same values in the names' cells, and stores inside them, before the numbers
    pub edge_same : (m m' : List ℤ) → ((c : ℕ) → c < cell_count ns → cell_value m c ≡ cell_value m' c) → edge_effect ns g m e ≡ edge_effect ns g m' e
    unfolding edge_effect
    edge_same m m' same = effect_same ns m m' same (meaning (edge_at g e).action) (p.edge e h).named

    -- so it is found in the array that a memory was copied to
    pub edge_found : {m cells : List ℤ} → Placed code m cells → {r : Effect} → EffectIn code cells (edge_meaning (entries_in code graph) graph e) r → r ≡ edge_effect ns g m e
    edge_found {m} {cells} at found = edge_effect_lem at.numbers found ∙ edge_same cells m (λ c l. at.same c (omega (arith, p.coded.most)))

    pub edge_inside : (m : List ℤ) (c : ℕ) (z : ℤ) → edge_effect ns g m e ≡ Stored c z → c < cell_count ns
    unfolding edge_effect
    edge_inside m = stores_inside ns m (meaning (edge_at g e).action) (p.edge e h).named

    pub numbers_kept : (m : List ℤ) → NumbersIn code m → NumbersIn code (after m (edge_effect ns g m e))
    numbers_kept m numbers = numbers_after code m (edge_effect ns g m e) numbers (λ c z q. omega (arith, edge_inside m c z q, p.coded.most))
