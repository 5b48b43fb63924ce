-- Guards of the deterministic graph, tested one after the other: at most one edge out of a node is defined, and it is found by testing each guard by itself.
use Rattle.std.specs.Prelude.{Err, Ok}
use mathlib.Core.Path.{◌≡◌, refl, sym, ◌∙◌, ap}
use mathlib.Core.Bool.{Bool, true, false, false≢true, ◌&&◌, and-true, and-false, and_assoc}
use mathlib.Core.List.{List}
use Prim.Native.Nat.{ℕ, ◌≤◌, ◌<◌}
use native.Mathlib.Decide.{ℕ_discrete, dec_lt}
use native.Mathlib.Omega.{arith}
use borrow.Author.Tests.{lt-ltb, eq-eqb}
use lib.Dec.{eqb}
use lib.IntN.{ℤ, pos}
use lib.ListN.{length, get_or}
use Rattle.signs.specs.Lists.{all_of}
use Rattle.signs.specs.Number.{equal}
use Rattle.program.specs.Graph.{Graph}
use Rattle.program.specs.Meaning.{Meaning}
use Rattle.program.specs.Parts.Prepared.{edge_count_place, entries_in, source_in, action_in, own_in, guards_in, Prepared, Following}
use Rattle.program.specs.Syntax.{Boolean, negation}
use Rattle.program.proofs.Guards.{Joins}
use Rattle.program.proofs.Laws.{all_lower, lower_all, own_there}
use Rattle.semantics.specs.Action.{pass, effect, after, is_defined}
use Rattle.semantics.specs.Budget.{lowest_defined}
use Rattle.semantics.specs.Expression.{conjoin, negate, truth_in, Truth}
use Rattle.semantics.specs.Parts.Cells.{NumbersIn}
use Rattle.semantics.specs.Parts.Coding.{decided, TruthIn}
use Rattle.semantics.specs.Parts.Running.{Lowest}
use Rattle.semantics.specs.Parts.Selecting.{holds_in, Opens, Fails}
use Rattle.semantics.specs.Step.{edge_effect}
use Rattle.semantics.proofs.Coded.{is_fault, fault_decided, truth_decided}
use Rattle.semantics.proofs.Edges.{first_leaving, none_leaving}
use Rattle.semantics.proofs.Opened.{guarded}

-- ---- whether a condition holds

holds_both : (a b : Truth) → is_defined (pass (conjoin a b)) ≡ (is_defined (pass a) && is_defined (pass b))
unfolding conjoin pass is_defined
holds_both (Ok true) (Ok true) = refl
holds_both (Ok true) (Ok false) = refl
holds_both (Ok true) (Err f) = refl
holds_both (Ok false) (Ok b) = refl
holds_both (Ok false) (Err f) = refl
holds_both (Err f) b = refl

-- ∧ holds where both sides do
pub holds_join : (ns : List ℕ) (m : List ℤ) → Joins (holds_in ns m) ◌&&◌ true
unfolding holds_in truth_in pass is_defined
holds_join ns m =
    record {
      both = λ k a b. holds_both (truth_in ns m a) (truth_in ns m b);
      yes = λ k. refl;
      not_labelled = λ k b. refl;
      assoc = and_assoc;
      left_unit = λ a. refl;
      right_unit = and-true;
    }

-- a condition does not hold with its falsehood
not_both : (t : Truth) → is_defined (pass (negate t)) ≡ true → is_defined (pass t) ≡ false
unfolding negate pass is_defined
not_both (Ok true) h = absurd (false≢true h)
not_both (Ok false) h = refl
not_both (Err f) h = refl

pub failed : (ns : List ℕ) (m : List ℤ) (b : Boolean) → holds_in ns m (negation 0 b) ≡ true → holds_in ns m b ≡ false
unfolding holds_in truth_in
failed ns m b h = not_both (truth_in ns m b) h

-- a number that stands for the truth of a condition
pub record Stands (ns : List ℕ) (m : List ℤ) (b : Boolean) (v : ℤ) : Type 0 where
  pub told : decided v ≡ truth_in ns m b

-- by it: true; undefined, so that neither the condition nor its falsehood holds; false
module _ {ns : List ℕ} {m : List ℤ} {b : Boolean} {v : ℤ} (q : Stands ns m b v) where
  pub known_holds : decided v ≡ Ok true → holds_in ns m b ≡ true
  unfolding holds_in pass is_defined
  known_holds e = rw (sym q.told ∙ e)

  pub fault_holds_not : is_fault v ≡ true → holds_in ns m (negation 0 b) ≡ false
  unfolding holds_in truth_in pass is_defined negate
  fault_holds_not h = rw (sym q.told ∙ fault_decided v h)

  pub fault_fails : is_fault v ≡ true → holds_in ns m b ≡ false
  unfolding holds_in pass is_defined
  fault_fails h = rw (sym q.told ∙ fault_decided v h)

  pub known_fails : is_fault v ≡ false → equal v (pos 1) ≡ false → holds_in ns m (negation 0 b) ≡ true
  unfolding holds_in truth_in pass is_defined negate
  known_fails h e = rw (sym q.told ∙ truth_decided v h, e)

-- a condition leaves a memory as it is
passing : (m : List ℤ) (t : Truth) → m ≡ after m (pass t)
unfolding after pass
passing m (Ok true) = refl
passing m (Ok false) = refl
passing m (Err f) = refl

-- ---- the edges out of a node whose lowest is a guard's

module _ {ns : List ℕ} {g : Graph} {code graph : List ℕ} (p : Prepared ns g code graph) (m : List ℤ) {node first : ℕ} (opened : Opens graph node first) where
  abbrev Failing : Boolean → Bool
  Failing b = holds_in ns m (negation 0 b)

  -- an edge that leaves the node
  module _ (f : ℕ) (h : f < length g.edges) (here : eqb (source_in graph f) node ≡ true) where
    -- it is defined where each lower guard fails and its own holds, and then it changes nothing
    pub edge_tested : is_defined (edge_effect ns g m f) ≡ (all_of Failing (guards_in (entries_in code graph) graph node f) && holds_in ns m (own_in (entries_in code graph) (action_in graph f)))
    unfolding edge_effect effect holds_in
    edge_tested =
        let known = guarded p opened f h here in
        ap (λ (x : Meaning). is_defined (effect ns m x)) known.means ∙ known.each (holds_join ns m)

    pub edge_still : m ≡ after m (edge_effect ns g m f)
    unfolding edge_effect effect
    edge_still =
        let known = guarded p opened f h here in
        passing m (truth_in ns m known.tested) ∙ ap (λ (x : Meaning). after m (effect ns m x)) (sym known.means)

    -- it is undefined where its own guard fails
    pub failed_undefined : Fails ns code graph m f → is_defined (edge_effect ns g m f) ≡ false
    unfolding Fails
    failed_undefined fails =
        edge_tested
        ∙ ap (λ (t : Bool). all_of Failing (guards_in (entries_in code graph) graph node f) && t) (failed ns m (own_in (entries_in code graph) (action_in graph f)) fails)
        ∙ and-false (all_of Failing (guards_in (entries_in code graph) graph node f))

    -- or a lower one does not fail
    pub passed_undefined : (e : ℕ) → e < f → eqb (source_in graph e) node ≡ true → Failing (own_in (entries_in code graph) (action_in graph e)) ≡ false → is_defined (edge_effect ns g m f) ≡ false
    passed_undefined e l at holds = edge_tested ∙ by (all_of Failing (guards_in (entries_in code graph) graph node f)) refl
      where
        by : (t : Bool) → all_of Failing (guards_in (entries_in code graph) graph node f) ≡ t → (t && holds_in ns m (own_in (entries_in code graph) (action_in graph f))) ≡ false
        by true all = absurd (false≢true (sym holds ∙ lower_all (entries_in code graph) graph node Failing f all e l at))
        by false all = refl

  -- ---- the guards before edge e have failed
  module _ (e : ℕ) (at : Following graph node (Fails ns code graph m) e) where
    undefined_before : Following graph node (λ k. is_defined (edge_effect ns g m k) ≡ false) e
    undefined_before = record { here = at.here; before = λ k l c s. failed_undefined k (omega (arith, p.edges)) s (at.before k l c s) }

    -- there is no edge more
    pub none_holds : get_or graph edge_count_place 0 ≤ e → Lowest ns g node m 255 m
    unfolding lowest_defined
    none_holds h = record { lowest = none_leaving p node _ e undefined_before h; memory = refl }

    module _ (h : e < get_or graph edge_count_place 0) where
      there : e < length g.edges
      there = omega (arith, p.edges)

      leaves_here : eqb (source_in graph e) node ≡ true
      leaves_here = eq-eqb (source_in graph e) node (at.here h)

      -- its guard holds
      pub one_holds : holds_in ns m (own_in (entries_in code graph) (action_in graph e)) ≡ true → Lowest ns g node m e m
      unfolding lowest_defined Fails
      one_holds t =
          let few = lt-ltb e 255 (omega (arith, p.edges, p.few_edges)) in
          let all = all_lower (entries_in code graph) graph node Failing e (λ k l s. at.before k l (omega arith) s) in
          record {
            lowest = rw few (first_leaving p node _ e undefined_before h (edge_tested e there leaves_here ∙ rw (all, t)));
            memory = rw few (edge_still e there leaves_here);
          }

      -- it is undefined, and so is each edge after it
      pub none_defined : holds_in ns m (own_in (entries_in code graph) (action_in graph e)) ≡ false → Failing (own_in (entries_in code graph) (action_in graph e)) ≡ false → Lowest ns g node m 255 m
      unfolding lowest_defined
      none_defined t u = record { lowest = none_leaving p node _ (get_or graph edge_count_place 0) (record { here = λ l. absurd (omega arith); before = each }) (omega arith); memory = refl }
        where
          each : (k : ℕ) → k < get_or graph edge_count_place 0 → k < get_or graph edge_count_place 0 → eqb (source_in graph k) node ≡ true → is_defined (edge_effect ns g m k) ≡ false
          each k c d s =
              elim (dec_lt k e) [
                | yes l ↦ undefined_before.before k l c s
                | no l ↦
                    elim (ℕ_discrete k e) [
                      | yes q ↦
                          rw q
                          (edge_tested e there leaves_here
                          ∙ ap (λ (x : Bool). all_of Failing (guards_in (entries_in code graph) graph node e) && x) t
                          ∙ and-false (all_of Failing (guards_in (entries_in code graph) graph node e)))
                      | no q ↦ passed_undefined k (omega (arith, p.edges)) s e (omega arith) leaves_here u
                    ]
              ]

-- an edge's own guard, as its number says
pub own_truth : {ns : List ℕ} {g : Graph} {code graph : List ℕ} (p : Prepared ns g code graph) {m : List ℤ} → NumbersIn code m → {e : ℕ} → e < length g.edges → {v : ℤ}
    → TruthIn code m (own_in (entries_in code graph) (action_in graph e)) v → Stands ns m (own_in (entries_in code graph) (action_in graph e)) v
own_truth {ns} p numbers {e} h found = record { told = found.gives ns (record { coded = p.coded; numbers = numbers }) (own_there p e h) }
