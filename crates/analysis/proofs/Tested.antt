-- Guards of the deterministic graph in an abstract memory, one after the other: an edge has its own guard's results where each guard before it may fail, and none where one may
-- not. So 42 and what follows a record are found by asking each guard by itself.
use Rattle.std.proofs.Common.{◌≡◌, ℕ, ◌<◌, Bool, true, false, cond, ◌&&◌, eqb, List, [], ◌∷◌, length, sym, refl, ap, ◌∙◌}
use mathlib.Core.Bool.{false≢true, and-true, and_assoc}
use Rattle.signs.specs.Lists.{all_of, any_of}
use Rattle.signs.specs.Truth.{truths_of, negated, certain}
use Rattle.signs.specs.declared.Truths.{Truths}
use Rattle.signs.proofs.Answers.{conjoined_by}
use Rattle.program.specs.Graph.{Graph, edge_at}
use Rattle.program.specs.Meaning.{meaning}
use Rattle.program.specs.Parts.Prepared.{entries_in, source_in, action_in, decoded_meaning, is_guard_node, own_in, guards_in, meaning_after, edge_meaning, Prepared}
use Rattle.program.specs.Syntax.{Boolean, negation}
use Rattle.program.specs.declared.ActionNode.{ActionNode}
use Rattle.program.proofs.Guards.{Joins}
use Rattle.program.proofs.Laws.{all_lower, lower_all, after_other, edge_meaning_lem}
use Rattle.semantics.specs.Parts.Selecting.{Opens}
use Rattle.semantics.proofs.Opened.{guarded}
use Rattle.analysis.specs.Results.{results}
use Rattle.analysis.specs.Signs.{truths_in}

-- ∧ may hold where both sides may
holds_join : (ρ : List ℕ) → Joins (λ b. (truths_in ρ b).holds) ◌&&◌ true
unfolding truths_in certain truths_of any_of
holds_join ρ =
    record {
      both = λ k a b. sym (ap (λ (t : Truths). t.holds) (conjoined_by (truths_in ρ a) (truths_in ρ b)));
      yes = λ k. refl;
      not_labelled = λ k b. refl;
      assoc = and_assoc;
      left_unit = λ a. refl;
      right_unit = and-true;
    }

-- the own guard of an edge, as the code has it
abbrev pub own_at : List ℕ → List ℕ → ℕ → Boolean
own_at code graph e = own_in (entries_in code graph) (action_in graph e)

-- what an edge means that is no guard's of the deterministic graph, as the code decodes it
pub plain_meaning : {ns : List ℕ} {g : Graph} {code graph : List ℕ} → Prepared ns g code graph → (e : ℕ) → e < length g.edges → {a : ActionNode} → a ≡ action_in graph e → is_guard_node a ≡ false
    → decoded_meaning (entries_in code graph) a ≡ meaning (edge_at g e).action
unfolding edge_meaning
plain_meaning {code = code} {graph = graph} p e h {a} told t =
    let lower = guards_in (entries_in code graph) graph (source_in graph e) e in
    sym (after_other (entries_in code graph) lower a t) ∙ ap (meaning_after (entries_in code graph) lower) told ∙ edge_meaning_lem p e h

-- ---- the edges out of a node whose lowest is a guard's

module _ {ns : List ℕ} {g : Graph} {code graph : List ℕ} (p : Prepared ns g code graph) (ρ : List ℕ) {node first : ℕ} (opened : Opens graph node first)
    (f : ℕ) (h : f < length g.edges) (here : eqb (source_in graph f) node ≡ true) where
  abbrev MayFail : Boolean → Bool
  MayFail b = (truths_in ρ (negation 0 b)).holds

  results_tested : results ρ (meaning (edge_at g f).action) ≡ cond (all_of MayFail (guards_in (entries_in code graph) graph node f) && (truths_in ρ (own_at code graph f)).holds) (ρ ∷ []) []
  unfolding results
  results_tested =
      let known = guarded p opened f h here in
      ap (results ρ) known.means ∙ ap (λ (t : Bool). cond t (ρ ∷ []) []) (known.each (holds_join ρ))

  -- after guards that may all fail
  pub results_own : ((k : ℕ) → k < f → eqb (source_in graph k) node ≡ true → (truths_in ρ (own_at code graph k)).fails ≡ true)
      → results ρ (meaning (edge_at g f).action) ≡ cond (truths_in ρ (own_at code graph f)).holds (ρ ∷ []) []
  unfolding truths_in negated
  results_own each =
      results_tested
      ∙ ap (λ (t : Bool). cond (t && (truths_in ρ (own_at code graph f)).holds) (ρ ∷ []) []) (all_lower (entries_in code graph) graph node MayFail f each)

  -- after one that may not
  pub results_none : (k : ℕ) → k < f → eqb (source_in graph k) node ≡ true → (truths_in ρ (own_at code graph k)).fails ≡ false → results ρ (meaning (edge_at g f).action) ≡ []
  unfolding truths_in negated
  results_none k l at t = results_tested ∙ by (all_of MayFail (guards_in (entries_in code graph) graph node f)) refl
    where
      by : (a : Bool) → all_of MayFail (guards_in (entries_in code graph) graph node f) ≡ a → cond (a && (truths_in ρ (own_at code graph f)).holds) (ρ ∷ []) [] ≡ []
      by true all = absurd (false≢true (sym t ∙ lower_all (entries_in code graph) graph node MayFail f all k l at))
      by false all = refl
