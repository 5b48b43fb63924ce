-- (order 8) "In it at most one arrow is defined at any node in any memory": of the deterministic graph.
use Rattle.std.specs.Prelude.{Ok}
use mathlib.Core.Path.{◌≡◌, refl, sym, ◌∙◌, ap}
use mathlib.Core.Bool.{Bool, true, false, false≢true}
use mathlib.Core.List.{List, [], ◌∷◌, flat_map}
use Prim.Native.Nat.{ℕ, ◌<◌}
use native.Mathlib.Decide.{ℕ_discrete, dec_lt}
use native.Mathlib.Omega.{arith}
use borrow.Author.Tests.{eqb-true}
use lib.Dec.{T, eqb, ltb}
use lib.IntN.{ℤ}
use lib.ListN.{length}
use mir.Facts.{and_yes}
use Rattle.signs.specs.Lists.{all_of}
use Rattle.program.specs.File.{sizes}
use Rattle.program.specs.Graph.{Action, perform, test, leave, select, Graph, graph, edges, edge_count, edge_at}
use Rattle.program.specs.Meaning.{meaning}
use Rattle.program.specs.Parts.Preceding.{before, is_test, is_select, is_guard, own_guard, own_guards, Follows}
use Rattle.program.specs.Questions.{validity}
use Rattle.program.specs.Syntax.{Boolean, negation}
use Rattle.program.specs.declared.Construction.TheVariants.{Deterministic}
use Rattle.program.proofs.Laws.{before_all, selected_all, done_all, edge_follows, untested}
use Rattle.program.proofs.Selecting.{all_split}
use Rattle.program.proofs.Tests.{two, both, is_true}
use Rattle.semantics.specs.Action.{effect, is_defined}
use Rattle.semantics.specs.Parts.Selecting.{holds_in}
use Rattle.semantics.specs.Step.{leaves, edge_effect}
use Rattle.semantics.proofs.Steps.{leaves_below}
use Rattle.semantics.proofs.Tested.{holds_join, failed}

-- what holds of all guards of some actions holds of each action's
all_own : (q : Boolean → Bool) (xs : List Action) → all_of q (own_guards xs) ≡ true → all_of (λ x. all_of q (own_guard x)) xs ≡ true
unfolding all_of own_guards flat_map
all_own q [] h = refl
all_own q (x ∷ xs) h = let parts = all_split q (own_guard x) (own_guards xs) h in both parts.0 (all_own q xs parts.1)

module _ (ns : List ℕ) (m : List ℤ) where
  abbrev Failing : Boolean → Bool
  Failing b = holds_in ns m (negation 0 b)

  -- where an edge after others at its node is defined, no guard of these holds
  others_fail : (xs : List Action) (x : Action) → is_test x ≡ false → Follows xs x → is_defined (effect ns m (meaning x)) ≡ true → (all_of is_guard xs ≡ true) × (all_of Failing (own_guards xs) ≡ true)
  unfolding meaning effect holds_in is_test is_select is_guard all_of own_guards flat_map
  others_fail xs (perform c) u f d = rw f (refl, refl)
  others_fail xs (test b) u f d = absurd (false≢true (sym u))
  others_fail xs (leave c) u f d = (f.0, ap (all_of Failing) f.1 ∙ sym (done_all (holds_join ns m) c) ∙ d)
  others_fail xs (select k earlier b) u f d =
      (guards xs f.0, ap (all_of Failing) f.1 ∙ (two (all_of Failing earlier) (holds_in ns m b) (sym (selected_all (holds_join ns m) earlier b) ∙ d)).0)
    where
      guards : (ys : List Action) → all_of is_select ys ≡ true → all_of is_guard ys ≡ true
      guards [] h = refl
      guards (y ∷ ys) h = let t = two (is_select y) (all_of is_select ys) h in both (one y t.0) (guards ys t.1)
        where
          one : (y : Action) → is_select y ≡ true → is_guard y ≡ true
          one (perform c) t = absurd (false≢true t)
          one (test b) t = absurd (false≢true t)
          one (leave c) t = absurd (false≢true t)
          one (select k earlier b) t = refl

  -- a guard that is passed holds by itself
  own_holds : (x : Action) → is_test x ≡ false → is_guard x ≡ true → is_defined (effect ns m (meaning x)) ≡ true → all_of Failing (own_guard x) ≡ true → ⊥
  unfolding meaning effect holds_in is_test is_select is_guard all_of own_guard
  own_holds (perform c) u g d h = false≢true g
  own_holds (test b) u g d h = false≢true (sym u)
  own_holds (leave c) u g d h = false≢true g
  own_holds (select k earlier b) u g d h =
      false≢true (sym (failed ns m b (two (Failing b) true h).0) ∙ (two (all_of Failing earlier) (holds_in ns m b) (sym (selected_all (holds_join ns m) earlier b) ∙ d)).1)

  module _ (g : Graph) (follows : (e : ℕ) → e < length g.edges → Follows (before g e) (edge_at g e).action) (plain : (e : ℕ) → e < length g.edges → is_test (edge_at g e).action ≡ false) where
    -- so no edge is defined after a defined one
    none_after : (e f : ℕ) → e < f → f < length g.edges → (edge_at g e).source ≡ (edge_at g f).source → is_defined (edge_effect ns g m e) ≡ true → is_defined (edge_effect ns g m f) ≡ true → ⊥
    unfolding edge_effect before
    none_after e f l h same first second =
        let known = others_fail (before g f) (edge_at g f).action (plain f h) (follows f h) second in
        own_holds (edge_at g e).action (plain e (omega arith))
        (before_all g (edge_at g f).source is_guard f (omega arith) known.0 e l same) first
        (before_all g (edge_at g f).source (λ x. all_of Failing (own_guard x)) f (omega arith) (all_own Failing (before g f) known.1) e l same)

    pub one_alone : (e f : ℕ) → e < length g.edges → f < length g.edges → (edge_at g e).source ≡ (edge_at g f).source
        → is_defined (edge_effect ns g m e) ≡ true → is_defined (edge_effect ns g m f) ≡ true → e ≡ f
    one_alone e f h k same first second =
        elim (dec_lt e f) [
          | yes l ↦ absurd (none_after e f l k same first second)
          | no l ↦ elim (ℕ_discrete e f) [ yes q ↦ q | no q ↦ absurd (none_after f e (omega arith) h (sym same) second first) ]
        ]

-- of a well-formed file
pub at_most_one : (s : List ℕ) → validity s ≡ Ok tt → (node : ℕ) (m : List ℤ) (e f : ℕ) → T (leaves (graph Deterministic s) e node) → T (leaves (graph Deterministic s) f node)
    → T (is_defined (edge_effect (sizes s) (graph Deterministic s) m e)) → T (is_defined (edge_effect (sizes s) (graph Deterministic s) m f)) → e ≡ f
unfolding edge_count edges leaves
at_most_one s fit node m e f le lf de df =
    let g = graph Deterministic s in
    let from : (k : ℕ) → T (leaves g k node) → (edge_at g k).source ≡ node = λ k t. eqb-true (edge_at g k).source node (is_true _ (and_yes (ltb k (length g.edges)) (eqb (edge_at g k).source node) t).1) in
    one_alone (sizes s) m g (edge_follows s fit Deterministic) (untested s) e f (leaves_below g e node le) (leaves_below g f node lf) (from e le ∙ sym (from f lf)) (is_true _ de) (is_true _ df)
