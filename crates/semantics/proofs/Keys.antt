-- An arm of a `match` that takes several variants knows that the tag is one of its keys; the last arm, that the number is none of those before.
use mathlib.Core.Path.{◌≡◌, refl}
use mathlib.Core.Bool.{Bool, false, ◌||◌}
use mathlib.Core.List.{List, [], ◌∷◌}
use mathlib.Core.Logic.{inl, inr}
use Prim.Native.Nat.{ℕ}
use borrow.Author.Tests.{eq-eqb}
use denote.Enum.Declared.{tag_of}
use lib.Dec.{T, eqb}
use types.Run.{OneOf}
use Rattle.signs.proofs.Lists.{or_right}
use Rattle.program.specs.Graph.{done}
use Rattle.program.specs.Parts.Node.{command_tree}
use Rattle.program.specs.Syntax.{truth}
use Rattle.program.specs.Tree.{Entries, command_made}
use Rattle.program.specs.declared.CommandNode.{CommandNode}
use Rattle.program.specs.declared.CommandNode.TheVariants.{Skip, Assign, Store, Sequence, Conditional, Iteration, Guarded, Choice, Jump}
use Rattle.program.specs.contracts.CommandNode.{the_type}

unfoldable pub is_key : ℕ → List ℕ → Bool
is_key x [] = false
is_key x (k ∷ ks) = eqb x k || is_key x ks

-- so a tag that is none of them refutes the arm by computation
pub one_key : (k : ℕ) (ks : List ℕ) (x : ℕ) → OneOf (k ∷ ks) x → T (is_key x (k ∷ ks))
unfolding is_key
one_key k [] x e = rw (eq-eqb x k e) tt
one_key k (j ∷ ks) x (inl e) = rw (eq-eqb x k e) tt
one_key k (j ∷ ks) x (inr h) = or_right (eqb x k) (is_key x (j ∷ ks)) (one_key j ks x h)

module _ (es : Entries) (n : ℕ) where
  -- a do of what is no guarded command is left at once
  pub left_at_once : (x : CommandNode) → OneOf (0 ∷ 1 ∷ 2 ∷ 3 ∷ 4 ∷ 5 ∷ 8 ∷ []) (tag_of the_type x) → done (command_tree es n x) ≡ truth n
  unfolding command_made done is_key
  left_at_once Skip k = refl
  left_at_once (Assign x a) k = refl
  left_at_once (Store x i a) k = refl
  left_at_once (Sequence p q) k = refl
  left_at_once (Conditional p) k = refl
  left_at_once (Iteration p) k = refl
  left_at_once (Guarded g p) k = absurd (one_key 0 (1 ∷ 2 ∷ 3 ∷ 4 ∷ 5 ∷ 8 ∷ []) 6 k)
  left_at_once (Choice p q) k = absurd (one_key 0 (1 ∷ 2 ∷ 3 ∷ 4 ∷ 5 ∷ 8 ∷ []) 7 k)
  left_at_once (Jump j) k = refl
