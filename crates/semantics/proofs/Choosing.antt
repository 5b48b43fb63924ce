-- The lowest defined edge out of a node is found and performed by following the links.
use mathlib.Core.Path.{◌≡◌, sym, subst, ◌∙◌}
use mathlib.Core.Bool.{Bool, true, false}
use mathlib.Core.List.{List}
use Prim.Native.Nat.{ℕ, ◌<◌, ◌≤◌}
use native.Mathlib.Omega.{arith}
use borrow.Author.Tests.{lt-ltb}
use lib.IntN.{ℤ}
use lib.ListN.{get_or}
use Rattle.program.specs.Graph.{Graph}
use Rattle.program.specs.Parts.Prepared.{edge_count_place, entries_in, action_in, decoded_meaning, is_guard_node, Prepared, Following}
use Rattle.semantics.specs.Action.{is_defined}
use Rattle.semantics.specs.Budget.{lowest_defined}
use Rattle.semantics.specs.Parts.Cells.{NumbersIn}
use Rattle.semantics.specs.Parts.Coding.{Follows, Performs}
use Rattle.semantics.specs.Parts.Running.{Lowest}
use Rattle.semantics.specs.Step.{edge_effect}
use Rattle.semantics.proofs.Edges.{first_leaving, none_leaving, edge_performs}
use Rattle.semantics.proofs.Effects.{undefined_after}

-- an edge out of a node is looked at: none before it is defined, nor a guard's of the deterministic graph, and the memory is as it was
pub record Looking (ns : List ℕ) (g : Graph) (graph : List ℕ) (node : ℕ) (start m : List ℤ) (e : ℕ) : Type 0 where
  pub following : Following graph node (λ k. is_defined (edge_effect ns g start k) ≡ false) e
  pub unguarded : Following graph node (λ k. is_guard_node (action_in graph k) ≡ false) e
  pub memory : m ≡ start

module _ {ns : List ℕ} {g : Graph} {code graph : List ℕ} (p : Prepared ns g code graph) {node : ℕ} {start m : List ℤ} {e : ℕ} (at : Looking ns g graph node start m e) where
  -- there is none
  pub none_taken : get_or graph edge_count_place 0 ≤ e → Lowest ns g node start 255 m
  unfolding lowest_defined
  none_taken h = record { lowest = none_leaving p node _ e at.following h; memory = at.memory }

  module _ (numbers : NumbersIn code start) (h : e < get_or graph edge_count_place 0) (plain : is_guard_node (action_in graph e) ≡ false) {r : Bool} {m' : List ℤ} (tried : Performs code m (decoded_meaning (entries_in code graph) (action_in graph e)) r m') where
    followed : Follows start (edge_effect ns g start e) r m'
    followed = edge_performs p e (omega (arith, p.edges)) plain numbers (subst (λ (l : List ℤ). Performs code l (decoded_meaning (entries_in code graph) (action_in graph e)) r m') at.memory tried)

    -- it is this one
    pub taken_here : r ≡ true → Lowest ns g node start e m'
    unfolding lowest_defined
    taken_here t =
        let few = lt-ltb e 255 (omega (arith, p.edges, p.few_edges)) in
        record { lowest = rw few (first_leaving p node _ e at.following h (sym followed.defined ∙ t)); memory = rw few followed.memory }

    -- or it is undefined, and the next one is looked at
    pub undefined_here : r ≡ false → is_defined (edge_effect ns g start e) ≡ false
    undefined_here t = sym followed.defined ∙ t

    pub unchanged_here : r ≡ false → m' ≡ start
    unchanged_here t = followed.memory ∙ sym (undefined_after start (edge_effect ns g start e) (undefined_here t))
