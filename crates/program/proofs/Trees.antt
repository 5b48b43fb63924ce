-- Laws of trees: how the tree at an entry is made of those at the entries below, and that it has the number of its entry.
use mathlib.Core.Path.{◌≡◌, refl}
use Prim.Native.Nat.{ℕ, ◌≤◌, ◌<◌}
use lib.IntN.{pos}
use Rattle.program.specs.Kind.{arith_kind, boolean_kind, command_kind}
use Rattle.program.specs.declared.ArithNode.{ArithNode}
use Rattle.program.specs.declared.ArithNode.TheVariants.{Number, Variable, Element, Operator}
use Rattle.program.specs.declared.BooleanNode.{BooleanNode}
use Rattle.program.specs.declared.BooleanNode.TheVariants.{True, Comparison, Both, AndThen, Not}
use Rattle.program.specs.declared.CommandNode.{CommandNode}
use Rattle.program.specs.declared.CommandNode.TheVariants.{Skip, Assign, Store, Sequence, Conditional, Iteration, Guarded, Choice, Jump}
use Rattle.program.specs.declared.Table.TheVariants.{Arithmetic, Boolean as Booleans, Commands}
use Rattle.program.specs.Parts.Sorted.{arith_entry}
use Rattle.program.specs.Syntax.{number, truth, skip, boolean_entry, command_entry}
use Rattle.program.specs.Tree.{Entries, arith_below, boolean_below, command_below, arith_node, arith_trees, arith_at, boolean_node, boolean_trees, boolean_at, command_node, command_trees, command_at, arith_made, boolean_made, command_made}
use Rattle.program.proofs.Induction.{from_seven, from_eight, from_ten}
use Rattle.program.proofs.Lists.{grown_at, grown_past}

module _ (es : Entries) where
  -- the tree that a reference to an entry below leads to
  pub arith_below_lem : (n r : ℕ) → r < n → arith_below (arith_trees es n) r ≡ arith_at es r
  unfolding arith_below arith_trees arith_at
  arith_below_lem n r h = grown_at (arith_trees es) (arith_at es) refl (λ k. refl) n r _ h

  pub boolean_below_lem : (n r : ℕ) → r < n → boolean_below (boolean_trees es n) r ≡ boolean_at es r
  unfolding boolean_below boolean_trees boolean_at
  boolean_below_lem n r h = grown_at (boolean_trees es) (boolean_at es) refl (λ k. refl) n r _ h

  pub command_below_lem : (n r : ℕ) → r < n → command_below (command_trees es n) r ≡ command_at es r
  unfolding command_below command_trees command_at
  command_below_lem n r h = grown_at (command_trees es) (command_at es) refl (λ k. refl) n r _ h

  -- any other reference leads to a leaf
  pub arith_past : (n r : ℕ) → n ≤ r → arith_below (arith_trees es n) r ≡ number r (pos 0)
  unfolding arith_below arith_trees arith_at
  arith_past n r h = grown_past (arith_trees es) (arith_at es) refl (λ k. refl) n r _ h

  pub boolean_past : (n r : ℕ) → n ≤ r → boolean_below (boolean_trees es n) r ≡ truth r
  unfolding boolean_below boolean_trees boolean_at
  boolean_past n r h = grown_past (boolean_trees es) (boolean_at es) refl (λ k. refl) n r _ h

  pub command_past : (n r : ℕ) → n ≤ r → command_below (command_trees es n) r ≡ skip r
  unfolding command_below command_trees command_at
  command_past n r h = grown_past (command_trees es) (command_at es) refl (λ k. refl) n r _ h

  -- the tree at entry n is its node over the trees of the entries below
  pub arith_at_lem : (n : ℕ) → arith_at es n ≡ arith_node (arith_trees es n) n (es Arithmetic n)
  unfolding arith_at
  arith_at_lem n = refl

  pub boolean_at_lem : (n : ℕ) → boolean_at es n ≡ boolean_node es (boolean_trees es n) n (es Booleans n)
  unfolding boolean_at
  boolean_at_lem n = refl

  pub command_at_lem : (n : ℕ) → command_at es n ≡ command_node es (command_trees es n) n (es Commands n)
  unfolding command_at
  command_at_lem n = refl

  -- an unknown kind makes a leaf
  pub arith_unknown : (n : ℕ) → 8 ≤ (es Arithmetic n).kind → arith_at es n ≡ number n (pos 0)
  unfolding arith_at arith_kind arith_made
  arith_unknown n h =
      let e = es Arithmetic n in
      from_eight (λ (k : ℕ). arith_node (arith_trees es n) n (record { kind = k; p = e.p; q = e.q; r = e.r }) ≡ number n (pos 0)) (λ k. refl) e.kind h

  pub boolean_unknown : (n : ℕ) → 7 ≤ (es Booleans n).kind → boolean_at es n ≡ truth n
  unfolding boolean_at boolean_kind boolean_made
  boolean_unknown n h =
      let e = es Booleans n in
      from_seven (λ (k : ℕ). boolean_node es (boolean_trees es n) n (record { kind = k; p = e.p; q = e.q; r = e.r }) ≡ truth n) (λ k. refl) e.kind h

  pub command_unknown : (n : ℕ) → 10 ≤ (es Commands n).kind → command_at es n ≡ skip n
  unfolding command_at command_kind command_made
  command_unknown n h =
      let e = es Commands n in
      from_ten (λ (k : ℕ). command_node es (command_trees es n) n (record { kind = k; p = e.p; q = e.q; r = e.r }) ≡ skip n) (λ k. refl) e.kind h

  -- the tree at entry n has the number n
  pub arith_entry_lem : (n : ℕ) → arith_entry (arith_at es n) ≡ n
  unfolding arith_at arith_made arith_entry
  arith_entry_lem n = by (arith_kind (es Arithmetic n))
    where
      by : (x : ArithNode) → arith_entry (arith_made (arith_trees es n) n x) ≡ n
      by (Number z) = refl
      by (Variable x) = refl
      by (Element x i) = refl
      by (Operator o p q) = refl

  pub boolean_entry_lem : (n : ℕ) → boolean_entry (boolean_at es n) ≡ n
  unfolding boolean_at boolean_made boolean_entry
  boolean_entry_lem n = by (boolean_kind (es Booleans n))
    where
      by : (x : BooleanNode) → boolean_entry (boolean_made es (boolean_trees es n) n x) ≡ n
      by True = refl
      by (Comparison o p q) = refl
      by (Both p q) = refl
      by (AndThen p q) = refl
      by (Not p) = refl

  pub command_entry_lem : (n : ℕ) → command_entry (command_at es n) ≡ n
  unfolding command_at command_made command_entry
  command_entry_lem n = by (command_kind (es Commands n))
    where
      by : (x : CommandNode) → command_entry (command_made es (command_trees es n) n x) ≡ n
      by Skip = refl
      by (Assign x a) = refl
      by (Store x i a) = refl
      by (Sequence p q) = refl
      by (Conditional p) = refl
      by (Iteration p) = refl
      by (Guarded g p) = refl
      by (Choice p q) = refl
      by (Jump j) = refl
