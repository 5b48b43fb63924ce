-- Any reading that has a well-formed file's entries has its trees and actions.
use Rattle.std.specs.Prelude.{Ok}
use mathlib.Core.Path.{◌≡◌, refl}
use mathlib.Core.List.{List, [], ◌∷◌, ◌++◌}
use Prim.Native.Nat.{ℕ, zero, suc, ◌≤◌, ◌<◌}
use native.Mathlib.Omega.{arith}
use Rattle.program.specs.File.{entry_count, entry}
use Rattle.program.specs.Parts.Sorted.{action_table, action_of}
use Rattle.program.specs.Kind.{kinds, shape, table_of, boolean_kind, command_kind, arith_kind}
use Rattle.program.specs.Questions.{same_table, limit, validity}
use Rattle.program.specs.Syntax.{Boolean, Command, Arith}
use Rattle.program.specs.Tree.{Entries, arith_trees, arith_at, boolean_node, boolean_trees, boolean_at, command_node, command_trees, command_at, boolean_made, command_made, arith_made, arith_node}
use Rattle.program.specs.declared.Table.TheVariants.{Arithmetic, Boolean as Booleans, Commands}
use Rattle.program.proofs.Induction.{by_kind, by_command}
use Rattle.program.proofs.Operands.{Operands, operands_fit}

-- a reading that has a file's entries; the fourth number of an arithmetic entry makes no difference
pub record SameEntries (s : List ℕ) (es : Entries) : Type 0 where
  pub kind : (n : ℕ) → n < entry_count s Arithmetic → (es Arithmetic n).kind ≡ (entry s Arithmetic n).kind
  pub p : (n : ℕ) → n < entry_count s Arithmetic → (es Arithmetic n).p ≡ (entry s Arithmetic n).p
  pub q : (n : ℕ) → n < entry_count s Arithmetic → (es Arithmetic n).q ≡ (entry s Arithmetic n).q
  pub booleans : (n : ℕ) → n < entry_count s Booleans → es Booleans n ≡ entry s Booleans n
  pub commands : (n : ℕ) → n < entry_count s Commands → es Commands n ≡ entry s Commands n

module _ (s : List ℕ) (fit : validity s ≡ Ok tt) (es : Entries) (same : SameEntries s es) where
  arith_node_lem : (below : List Arith) (n : ℕ) → n < entry_count s Arithmetic → arith_node below n (es Arithmetic n) ≡ arith_node below n (entry s Arithmetic n)
  unfolding arith_kind arith_made
  arith_node_lem below n h = rw (same.kind n h, same.p n h, same.q n h)

  arith_trees_lem : (n : ℕ) → n ≤ entry_count s Arithmetic → arith_trees es n ≡ arith_trees (entry s) n
  unfolding arith_trees
  arith_trees_lem zero h = refl
  arith_trees_lem (suc n) h = rw (arith_trees_lem n (omega arith), arith_node_lem (arith_trees (entry s) n) n h)

  arith_same : (n : ℕ) → n < entry_count s Arithmetic → arith_at es n ≡ arith_at (entry s) n
  unfolding arith_at
  arith_same n h = rw (arith_trees_lem n (omega arith)) (arith_node_lem (arith_trees (entry s) n) n h)

  -- a boolean entry whose arithmetic entries exist
  boolean_node_lem : (below : List Boolean) (n k p q r : ℕ) → Operands s Booleans n (shape Booleans k) (record { kind = k; p = p; q = q; r = r })
      → boolean_node es below n (record { kind = k; p = p; q = q; r = r }) ≡ boolean_node (entry s) below n (record { kind = k; p = p; q = q; r = r })
  unfolding shape kinds boolean_kind boolean_made limit same_table table_of
  boolean_node_lem below n =
      by_kind _
      (λ p q r h. refl)
      (λ p q r h. rw (arith_same p h.0.lower, arith_same q h.1.lower))
      (λ p q r h. rw (arith_same p h.0.lower, arith_same q h.1.lower))
      (λ p q r h. rw (arith_same p h.0.lower, arith_same q h.1.lower))
      (λ p q r h. refl)
      (λ p q r h. refl)
      (λ p q r h. refl)
      (λ p q r h. refl)
      (λ k p q r h. refl)

  boolean_next : (n : ℕ) → n < entry_count s Booleans → boolean_trees es n ≡ boolean_trees (entry s) n → boolean_at es n ≡ boolean_at (entry s) n
  unfolding boolean_at
  boolean_next n h below = rw (below, same.booleans n h) (boolean_node_lem (boolean_trees (entry s) n) n _ _ _ _ (operands_fit s fit Booleans n h))

  boolean_trees_lem : (n : ℕ) → n ≤ entry_count s Booleans → boolean_trees es n ≡ boolean_trees (entry s) n
  unfolding boolean_trees boolean_at
  boolean_trees_lem zero h = refl
  boolean_trees_lem (suc n) h = let below = boolean_trees_lem n (omega arith) in λ i. below i ++ (boolean_next n h below i ∷ [])

  boolean_same : (n : ℕ) → n < entry_count s Booleans → boolean_at es n ≡ boolean_at (entry s) n
  boolean_same n h = boolean_next n h (boolean_trees_lem n (omega arith))

  -- a command whose arithmetic and boolean entries exist
  command_node_lem : (below : List Command) (n k p q r : ℕ) → Operands s Commands n (shape Commands k) (record { kind = k; p = p; q = q; r = r })
      → command_node es below n (record { kind = k; p = p; q = q; r = r }) ≡ command_node (entry s) below n (record { kind = k; p = p; q = q; r = r })
  unfolding shape kinds command_kind command_made limit same_table table_of
  command_node_lem below n =
      by_command _
      (λ p q r h. refl)
      (λ p q r h. rw (arith_same q h.1.lower))
      (λ p q r h. rw (arith_same q h.1.lower, arith_same r h.2.lower))
      (λ p q r h. refl)
      (λ p q r h. refl)
      (λ p q r h. refl)
      (λ p q r h. rw (boolean_same p h.0.lower))
      (λ p q r h. refl)
      (λ p q r h. refl)
      (λ p q r h. refl)
      (λ k p q r h. refl)

  command_next : (n : ℕ) → n < entry_count s Commands → command_trees es n ≡ command_trees (entry s) n → command_at es n ≡ command_at (entry s) n
  unfolding command_at
  command_next n h below = rw (below, same.commands n h) (command_node_lem (command_trees (entry s) n) n _ _ _ _ (operands_fit s fit Commands n h))

  command_trees_lem : (n : ℕ) → n ≤ entry_count s Commands → command_trees es n ≡ command_trees (entry s) n
  unfolding command_trees command_at
  command_trees_lem zero h = refl
  command_trees_lem (suc n) h = let below = command_trees_lem n (omega arith) in λ i. below i ++ (command_next n h below i ∷ [])

  command_same : (n : ℕ) → n < entry_count s Commands → command_at es n ≡ command_at (entry s) n
  command_same n h = command_next n h (command_trees_lem n (omega arith))

  pub action_same : (kind n : ℕ) → n < entry_count s (action_table kind) → action_of es kind n ≡ action_of (entry s) kind n
  unfolding action_of action_table
  action_same zero n h = refl
  action_same (suc zero) n h = rw (command_same n h)
  action_same (suc (suc zero)) n h = rw (boolean_same n h)
  action_same (suc (suc (suc zero))) n h = rw (command_same n h)
  action_same (suc (suc (suc (suc zero)))) n h = rw (command_same n h)
  action_same (suc (suc (suc (suc (suc k))))) n h = refl
