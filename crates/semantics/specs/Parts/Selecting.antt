-- What the functions that work out guards of the deterministic graph promise each other. No public contract cites these.
use Rattle.std.specs.Prelude.{◌≡◌, Bool, true, cond, ℕ, ◌<◌, eqb, ℤ}
use mathlib.Core.List.{List, [], ◌∷◌, foldl}
use Rattle.signs.specs.Lists.{all_of}
use Rattle.program.specs.Parts.Prepared.{entries_in, source_in, action_in, is_guard_node, own_in}
use Rattle.program.specs.Parts.Sorted.{boolean_named}
use Rattle.program.specs.Syntax.{Boolean, negation}
use Rattle.program.specs.Tree.{Entries}
use Rattle.semantics.specs.Action.{pass, is_defined}
use Rattle.semantics.specs.Expression.{conjoin, truth_in, Truth}
use Rattle.semantics.specs.Parts.Cells.{Loaded}
use Rattle.semantics.specs.Parts.Coding.{decided}

-- whether a condition holds: it is true and not undefined
unfoldable pub holds_in : List ℕ → List ℤ → Boolean → Bool
holds_in ns m b = is_defined (pass (truth_in ns m b))

-- the guard of edge k, where the edge leaves a node
unfoldable pub guard_at : Entries → List ℕ → ℕ → ℕ → List Boolean
guard_at es graph node k = cond (eqb (source_in graph k) node) (own_in es (action_in graph k) ∷ []) []

-- a truth, and that each of some guards fails
unfoldable pub and_fail : List ℕ → List ℤ → Truth → List Boolean → Truth
and_fail ns m t gs = foldl (λ x b. conjoin x (truth_in ns m (negation 0 b))) t gs

-- a number that stands for this, where another stands for the truth
pub record FailsAfter (words : List ℕ) (m : List ℤ) (gs : List Boolean) (v r : ℤ) : Type 0 where
  pub gives : (ns : List ℕ) → Loaded ns words m → all_of (boolean_named ns) gs ≡ true → decided r ≡ and_fail ns m (decided v) gs

-- edge e is the lowest out of a node, and a guard's of the deterministic graph
pub record Opens (graph : List ℕ) (node e : ℕ) : Type 0 where
  pub here : source_in graph e ≡ node
  pub guard : is_guard_node (action_in graph e) ≡ true
  pub none : (k : ℕ) → k < e → eqb (source_in graph k) node ≡ true → ⊥

-- the guard of edge k fails
unfoldable pub Fails : List ℕ → List ℕ → List ℕ → List ℤ → ℕ → Type 0
Fails ns code graph m k = holds_in ns m (negation 0 (own_in (entries_in code graph) (action_in graph k))) ≡ true
