-- The index mark is the same for every construction: where an action has an index that may be negative, its own guard has it or that of a lower edge out of its node, so
-- the first such edge is the same without the earlier guards. Of index sets this uses only that those of ∧ are its sides' and those of ¬ its part's.
use Rattle.std.specs.Prelude.{Ok, None, Option, Some, is_some}
use Rattle.std.proofs.Common.{◌≡◌, ℕ, zero, suc, ◌<◌, ◌≤◌, Bool, true, false, not, ◌&&◌, ◌||◌, ltb, List, [], ◌∷◌, map, length, get_or, sym, refl, ap, ◌∙◌, arith, lt-ltb, eq-eqb, eqb-true}
use mathlib.Core.Bool.{false≢true, or_assoc, or-true, or-false}
use mathlib.Core.List.{flat_map}
use lib.ListN.{length-map}
use Rattle.signs.specs.Lists.{all_of, any_of}
use Rattle.program.specs.File.{sizes}
use Rattle.program.specs.FirstSuch.{first_such}
use Rattle.program.specs.Graph.{Action, perform, test, leave, select, Edge, edge, Graph, graph, edge_count, edges, edge_at}
use Rattle.program.specs.Meaning.{meaning}
use Rattle.program.specs.Parts.Preceding.{before, is_select, own_guard, own_guards, Follows, plain, plain_edge, plain_graph}
use Rattle.program.specs.Questions.{validity}
use Rattle.program.specs.Syntax.{Boolean, negation, skip}
use Rattle.program.specs.declared.Construction.{Construction}
use Rattle.program.specs.declared.Construction.TheVariants.{Nondeterministic}
use Rattle.program.proofs.Guards.{Joins}
use Rattle.program.proofs.Laws.{selected_any, all_before, first_same, such_same, none_such, such_none, first_such_lem, such_first, edge_follows, plain_graph_lem}
use Rattle.program.proofs.Tests.{two, both}
use Rattle.semantics.specs.Step.{leaves}
use Rattle.analysis.specs.Index.{boolean_indexes, index_sets, any_negative, may_be_negative}
use Rattle.analysis.specs.Records.{record_width, record_count, record_at, node_of, memory_of}
use Rattle.analysis.specs.Verdict.{spot_at, first_spot, mark_of, index_mark}
use Rattle.analysis.proofs.Negative.{any_append}

-- the first that passes is the same for two tests, where what passes the second passes the first, and what passes the first passes the second or comes after one that does
same_first : (n : ℕ) (p q : ℕ → Bool) → ((e : ℕ) → e < n → q e ≡ true → p e ≡ true) → ((e : ℕ) → e < n → ((k : ℕ) → k ≤ e → q k ≡ false) → p e ≡ false) → first_such n p ≡ first_such n q
same_first n p q own none = by (first_such n q) refl
  where
    by : (x : Option ℕ) → first_such n q ≡ x → first_such n p ≡ x
    by (Some k) e =
        let f = such_first n q k e in
        first_such_lem n p k (record { below = f.below; passes = own k f.below f.passes; before = λ j h. none j (omega (arith, f.below)) (λ i l. f.before i (omega arith)) })
    by None e = none_such n p (λ k h. none k h (λ i l. such_none n q e i (omega arith)))

not_false : (b : Bool) → b ≡ false → not b ≡ true
not_false b e = rw e

is_false : (b : Bool) → not b ≡ true → b ≡ false
is_false true e = sym e
is_false false e = refl

module _ (ρ : List ℕ) where
  -- whether an index of a condition may be negative
  abbrev Negative : Boolean → Bool
  Negative b = any_negative (boolean_indexes ρ b)

  negative_join : Joins Negative ◌||◌ false
  unfolding boolean_indexes any_negative any_of
  negative_join =
      record {
        both = λ k a b. any_append (boolean_indexes ρ a) (boolean_indexes ρ b);
        yes = λ k. refl;
        not_labelled = λ k b. refl;
        assoc = or_assoc;
        left_unit = λ a. refl;
        right_unit = or-false;
      }

  -- of an action without its earlier guards
  abbrev Own : Action → Bool
  Own x = may_be_negative ρ (meaning (plain x))

  own_has : (x : Action) → Own x ≡ true → may_be_negative ρ (meaning x) ≡ true
  unfolding plain meaning may_be_negative index_sets
  own_has (perform c) t = t
  own_has (test b) t = t
  own_has (leave c) t = t
  own_has (select k earlier b) t = selected_any negative_join earlier b ∙ ap (λ v. any_of (λ g. Negative (negation 0 g)) earlier || v) t ∙ or-true (any_of (λ g. Negative (negation 0 g)) earlier)

  -- where the guards before it have none, and its own has none, it has none
  guards_clear : (xs : List Action) → all_of is_select xs ≡ true → all_of (λ x. not (Own x)) xs ≡ true → any_of (λ g. Negative (negation 0 g)) (own_guards xs) ≡ false
  unfolding own_guards own_guard flat_map all_of any_of is_select plain meaning may_be_negative index_sets boolean_indexes
  guards_clear [] s h = refl
  guards_clear (perform c ∷ xs) s h = absurd (false≢true s)
  guards_clear (test b ∷ xs) s h = absurd (false≢true s)
  guards_clear (leave c ∷ xs) s h = absurd (false≢true s)
  guards_clear (select k earlier b ∷ xs) s h =
      let t = two (not (Negative b)) _ h in
      rw (is_false (Negative b) t.0) (guards_clear xs s t.1)

  own_only : (xs : List Action) (x : Action) → Follows xs x → all_of (λ x. not (Own x)) xs ≡ true → Own x ≡ false → may_be_negative ρ (meaning x) ≡ false
  unfolding plain meaning may_be_negative index_sets
  own_only xs (perform c) f h t = t
  own_only xs (test b) f h t = t
  own_only xs (leave c) f h t = t
  own_only xs (select k earlier b) f h t =
      selected_any negative_join earlier b
      ∙ ap (λ gs. any_of (λ g. Negative (negation 0 g)) gs || Negative b) (sym f.1)
      ∙ ap (λ v. v || Negative b) (guards_clear xs f.0 h)
      ∙ t

module _ (g : Graph) (follows : (e : ℕ) → e < length g.edges → Follows (before g e) (edge_at g e).action) where
  -- the first edge out of a node, in an abstract memory
  node_same : (node : ℕ) (ρ : List ℕ)
      → first_such (length g.edges) (λ e. leaves g e node && may_be_negative ρ (meaning (edge_at g e).action))
      ≡ first_such (length g.edges) (λ e. leaves g e node && may_be_negative ρ (meaning (plain (edge_at g e).action)))
  unfolding leaves before
  node_same node ρ =
      same_first (length g.edges) _ _
      (λ e h t. let s = two (leaves g e node) _ t in both s.0 (own_has ρ (edge_at g e).action s.1))
      (λ e h none. by e h none (leaves g e node) refl)
    where
      picks : ℕ → Bool
      picks e = leaves g e node && Own ρ (edge_at g e).action

      clear : (i : ℕ) → leaves g i node ≡ true → picks i ≡ false → Own ρ (edge_at g i).action ≡ false
      clear i l t = sym (ap (λ v. v && Own ρ (edge_at g i).action) l) ∙ t

      by : (e : ℕ) → e < length g.edges → ((k : ℕ) → k ≤ e → picks k ≡ false) → (b : Bool) → leaves g e node ≡ b → (leaves g e node && may_be_negative ρ (meaning (edge_at g e).action)) ≡ false
      by e h none false l = rw l
      by e h none true l =
          let here = eqb-true (edge_at g e).source node (two (ltb e (length g.edges)) _ l).1 in
          rw l
          (own_only ρ (before g e) (edge_at g e).action (follows e h)
          (all_before g (edge_at g e).source (λ x. not (Own ρ x)) e (omega arith)
          (λ i m s. not_false _ (clear i (both (lt-ltb i (length g.edges) (omega arith)) (eq-eqb (edge_at g i).source node (s ∙ here))) (none i (omega arith)))))
          (clear e l (none e (omega arith))))

  -- so the mark is that of the actions without their earlier guards
  pub own_mark : (ns solution : List ℕ) → index_mark ns g solution ≡ mark_of (first_spot ns g solution (λ ρ e. may_be_negative ρ (meaning (plain (edge_at g e).action))))
  unfolding index_mark first_spot
  own_mark ns solution =
      ap mark_of
      (first_same is_some None (record_count (record_width ns) solution) _ _
      (λ k h. ap (spot_at k) (node_same (node_of (record_at (record_width ns) solution k)) (memory_of ns (record_at (record_width ns) solution k)))))

-- ---- the graph of the actions without their earlier guards

module _ (g : Graph) where
  count_plain : length (plain_graph g).edges ≡ length g.edges
  unfolding plain_graph
  count_plain = length-map g.edges plain_edge

  edge_plain : (e : ℕ) → edge_at (plain_graph g) e ≡ plain_edge (edge_at g e)
  unfolding edge_at plain_graph plain_edge plain
  edge_plain e = by g.edges e
    where
      by : (es : List Edge) (e : ℕ) → get_or (map plain_edge es) e (edge 0 (perform (skip 0)) 0) ≡ plain_edge (get_or es e (edge 0 (perform (skip 0)) 0))
      by [] e = refl
      by (x ∷ es) zero = refl
      by (x ∷ es) (suc e) = by es e

  plain_mark : (ns solution : List ℕ) → index_mark ns (plain_graph g) solution ≡ mark_of (first_spot ns g solution (λ ρ e. may_be_negative ρ (meaning (plain (edge_at g e).action))))
  unfolding index_mark first_spot leaves plain_edge
  plain_mark ns solution =
      ap mark_of
      (first_same is_some None (record_count (record_width ns) solution) _ _
      (λ k h. ap (spot_at k) (same (node_of (record_at (record_width ns) solution k)) (memory_of ns (record_at (record_width ns) solution k)))))
    where
      same : (node : ℕ) (ρ : List ℕ)
          → first_such (length (plain_graph g).edges) (λ e. leaves (plain_graph g) e node && may_be_negative ρ (meaning (edge_at (plain_graph g) e).action))
          ≡ first_such (length g.edges) (λ e. leaves g e node && may_be_negative ρ (meaning (plain (edge_at g e).action)))
      same node ρ =
          ap (λ (n : ℕ). first_such n (λ e. leaves (plain_graph g) e node && may_be_negative ρ (meaning (edge_at (plain_graph g) e).action))) count_plain
          ∙ such_same (length g.edges) _ _ (λ e h. rw (count_plain, edge_plain e))

-- of a fit file, on every construction's graph
pub mark_same : (s : List ℕ) → validity s ≡ Ok tt → (κ : Construction) (solution : List ℕ) → index_mark (sizes s) (graph κ s) solution ≡ index_mark (sizes s) (graph Nondeterministic s) solution
unfolding edges edge_count
mark_same s fit κ solution =
    own_mark (graph κ s) (edge_follows s fit κ) (sizes s) solution
    ∙ sym (plain_mark (graph κ s) (sizes s) solution)
    ∙ ap (λ (g : Graph). index_mark (sizes s) g solution) (plain_graph_lem κ s)
