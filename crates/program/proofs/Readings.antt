-- What the functions that read a prepared program tell apart by numbers.
use mathlib.Core.Bool.{false, false≢true}
use mathlib.Core.Path.{◌≡◌, refl, sym, ap, ◌∙◌}
use mathlib.Core.List.{List}
use Prim.Native.Nat.{ℕ, zero, suc, ◌<◌}
use native.Mathlib.Decide.{dec_le}
use native.Mathlib.Omega.{arith}
use borrow.Author.Tests.{lt-ltb, le-ltb}
use Rattle.program.specs.Kind.{arith_kind, boolean_kind, command_kind}
use Rattle.program.specs.File.{signed32}
use Rattle.program.specs.Parts.Node.{command_form}
use Rattle.program.specs.Parts.Prepared.{entries_in, arith_in, number_of, number_in, performed, guard_form, action_form, is_guard_node}
use Rattle.program.specs.Tree.{Entries, arith_below, arith_trees, arith_at, boolean_below, boolean_trees, boolean_at, command_below, command_trees, command_at, arith_made, boolean_made, command_made}
use Rattle.program.specs.declared.ActionNode.TheVariants.{Nothing}
use Rattle.program.specs.declared.ArithNode.{ArithNode}
use Rattle.program.specs.declared.CommandNode.{CommandNode}
use Rattle.program.specs.declared.CommandNode.TheVariants.{Skip, Assign, Store, Sequence, Conditional, Iteration, Guarded, Choice, Jump}
use Rattle.program.proofs.Trees.{arith_below_lem, arith_past, boolean_below_lem, boolean_past, command_below_lem, command_past}

-- the number at an entry, where code has asked what the entry is, and was told
pub number_told : (code : List ℕ) (n : ℕ) {x k : ArithNode} → n < 512 → x ≡ arith_in code n → x ≡ k → number_in code n ≡ number_of k
unfolding number_in
number_told code n h e told = rw (lt-ltb n 512 h) (ap number_of (sym e ∙ told))

-- a guarded command's guard is one, or its form is nothing
guard_or_nothing : (c : CommandNode) → is_guard_node (guard_form c) ≡ false → Nothing ≡ guard_form c
unfolding is_guard_node guard_form
guard_or_nothing Skip h = refl
guard_or_nothing (Assign x a) h = refl
guard_or_nothing (Store x i a) h = refl
guard_or_nothing (Sequence p q) h = refl
guard_or_nothing (Conditional p) h = refl
guard_or_nothing (Iteration p) h = refl
guard_or_nothing (Guarded g p) h = absurd (false≢true (sym h))
guard_or_nothing (Choice p q) h = refl
guard_or_nothing (Jump j) h = refl

-- a kind that is none of 1 to 3 is no action's but a guard's
pub action_other : (es : Entries) (k n : ℕ) → (((Unit {0} × (k ≡ 1 → ⊥)) × (k ≡ 2 → ⊥)) × (k ≡ 3 → ⊥)) → is_guard_node (action_form es k n) ≡ false → Nothing ≡ action_form es k n
unfolding action_form
action_other es zero n h g = refl
action_other es (suc zero) n h g = absurd (h.0.0.1 refl)
action_other es (suc (suc zero)) n h g = absurd (h.0.1 refl)
action_other es (suc (suc (suc zero))) n h g = absurd (h.1 refl)
action_other es (suc (suc (suc (suc zero)))) n h g = guard_or_nothing (command_form es 256 n) g
action_other es (suc (suc (suc (suc (suc k))))) n h g = refl

-- what a command does is no guard
performed_plain : (c : CommandNode) → is_guard_node (performed c) ≡ false
unfolding is_guard_node performed
performed_plain Skip = refl
performed_plain (Assign x a) = refl
performed_plain (Store x i a) = refl
performed_plain (Sequence p q) = refl
performed_plain (Conditional p) = refl
performed_plain (Iteration p) = refl
performed_plain (Guarded g p) = refl
performed_plain (Choice p q) = refl
performed_plain (Jump j) = refl

-- an action of a kind that is not 4 is no guard's
pub action_plain : (es : Entries) (k n : ℕ) → (k ≡ 4 → ⊥) → is_guard_node (action_form es k n) ≡ false
unfolding action_form is_guard_node
action_plain es zero n h = refl
action_plain es (suc zero) n h = performed_plain (command_form es 256 n)
action_plain es (suc (suc zero)) n h = refl
action_plain es (suc (suc (suc zero))) n h = refl
action_plain es (suc (suc (suc (suc zero)))) n h = absurd (h refl)
action_plain es (suc (suc (suc (suc (suc k))))) n h = refl

-- past what a table can have every entry is a leaf, so the tree at an entry is the one below that
module _ (code graph : List ℕ) where
  pub arith_any : (n : ℕ) → arith_at (entries_in code graph) n ≡ arith_below (arith_trees (entries_in code graph) 512) n
  unfolding arith_at arith_kind arith_made entries_in signed32
  arith_any n =
      elim (dec_le 512 n) [
        | yes h ↦ rw (arith_past (entries_in code graph) 512 n h, le-ltb n 512 h)
        | no h ↦ sym (arith_below_lem (entries_in code graph) 512 n (omega arith))
      ]

  pub boolean_any : (n : ℕ) → boolean_at (entries_in code graph) n ≡ boolean_below (boolean_trees (entries_in code graph) 256) n
  unfolding boolean_at boolean_kind boolean_made entries_in
  boolean_any n =
      elim (dec_le 256 n) [
        | yes h ↦ rw (boolean_past (entries_in code graph) 256 n h, le-ltb n 256 h)
        | no h ↦ sym (boolean_below_lem (entries_in code graph) 256 n (omega arith))
      ]

  pub command_any : (n : ℕ) → command_at (entries_in code graph) n ≡ command_below (command_trees (entries_in code graph) 256) n
  unfolding command_at command_kind command_made entries_in
  command_any n =
      elim (dec_le 256 n) [
        | yes h ↦ rw (command_past (entries_in code graph) 256 n h, le-ltb n 256 h)
        | no h ↦ sym (command_below_lem (entries_in code graph) 256 n (omega arith))
      ]
