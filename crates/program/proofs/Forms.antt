-- The tree at an entry, by what the entry is; and an entry that has parts in its own table is lower than the one that it is a part of.
use mathlib.Core.Path.{◌≡◌, sym, ◌∙◌, ap}
use Prim.Native.Nat.{ℕ, ◌≤◌, ◌<◌}
use native.Mathlib.Decide.{dec_le}
use native.Mathlib.Omega.{arith}
use borrow.Author.Tests.{lt-ltb, le-ltb}
use Rattle.program.specs.Kind.{command_kind}
use Rattle.program.specs.Parts.Node.{arith_form, arith_tree, boolean_form, boolean_tree, command_form, command_tree}
use Rattle.program.specs.Syntax.{Command, skip}
use Rattle.program.specs.Tree.{Entries, arith_below, arith_trees, arith_at, boolean_below, boolean_trees, boolean_at, command_below, command_trees, command_at, arith_made, boolean_made, command_made}
use Rattle.program.specs.declared.ArithNode.{ArithNode}
use Rattle.program.specs.declared.ArithNode.TheVariants.{Number, Variable, Element, Operator}
use Rattle.program.specs.declared.BooleanNode.{BooleanNode}
use Rattle.program.specs.declared.BooleanNode.TheVariants.{True, Comparison, Both, AndThen, Not}
use Rattle.program.specs.declared.CommandNode.{CommandNode}
use Rattle.program.specs.declared.CommandNode.TheVariants.{Skip, Assign, Store, Sequence, Conditional, Iteration, Guarded, Choice, Jump}
use Rattle.program.specs.declared.Table.TheVariants.{Commands}
use Rattle.program.proofs.Induction.{from_below}
use Rattle.program.proofs.Trees.{arith_below_lem, arith_past, boolean_below_lem, boolean_past, command_at_lem, command_below_lem, command_past}

-- it has parts in its own table
abbrev pub ArithParts : ArithNode → Type 0
ArithParts (Number z) = ⊥
ArithParts (Variable x) = ⊥
ArithParts (Element x i) = Unit
ArithParts (Operator o p q) = Unit

abbrev pub BooleanParts : BooleanNode → Type 0
BooleanParts True = ⊥
BooleanParts (Comparison o p q) = ⊥
BooleanParts (Both p q) = Unit
BooleanParts (AndThen p q) = Unit
BooleanParts (Not p) = Unit

abbrev pub CommandParts : CommandNode → Type 0
CommandParts Skip = ⊥
CommandParts (Assign x a) = ⊥
CommandParts (Store x i a) = ⊥
CommandParts (Sequence p q) = Unit
CommandParts (Conditional p) = Unit
CommandParts (Iteration p) = Unit
CommandParts (Guarded g p) = Unit
CommandParts (Choice p q) = Unit
CommandParts (Jump j) = ⊥

module _ (es : Entries) where
  module _ (bound n : ℕ) where
    -- the tree of entry n as a part of entry bound
    arith_form_lem : arith_below (arith_trees es bound) n ≡ arith_tree es n (arith_form es bound n)
    unfolding arith_form arith_made arith_at
    arith_form_lem =
        elim (dec_le bound n) [
          | yes h ↦ rw (le-ltb n bound h) (arith_past es bound n h)
          | no h ↦ rw (lt-ltb n bound (omega arith)) (arith_below_lem es bound n (omega arith))
        ]

    boolean_form_lem : boolean_below (boolean_trees es bound) n ≡ boolean_tree es n (boolean_form es bound n)
    unfolding boolean_form boolean_made boolean_at
    boolean_form_lem =
        elim (dec_le bound n) [
          | yes h ↦ rw (le-ltb n bound h) (boolean_past es bound n h)
          | no h ↦ rw (lt-ltb n bound (omega arith)) (boolean_below_lem es bound n (omega arith))
        ]

    command_form_lem : command_below (command_trees es bound) n ≡ command_tree es n (command_form es bound n)
    unfolding command_form command_made command_at
    command_form_lem =
        elim (dec_le bound n) [
          | yes h ↦ rw (le-ltb n bound h) (command_past es bound n h)
          | no h ↦ rw (lt-ltb n bound (omega arith)) (command_below_lem es bound n (omega arith))
        ]

    -- where code has asked what the entry is, and was told
    pub arith_told : {x k : ArithNode} → x ≡ arith_form es bound n → x ≡ k → arith_below (arith_trees es bound) n ≡ arith_tree es n k
    arith_told e told = arith_form_lem ∙ ap (arith_tree es n) (sym e ∙ told)

    pub boolean_told : {x k : BooleanNode} → x ≡ boolean_form es bound n → x ≡ k → boolean_below (boolean_trees es bound) n ≡ boolean_tree es n k
    boolean_told e told = boolean_form_lem ∙ ap (boolean_tree es n) (sym e ∙ told)

    pub command_told : {x k : CommandNode} → x ≡ command_form es bound n → x ≡ k → command_below (command_trees es bound) n ≡ command_tree es n k
    command_told e told = command_form_lem ∙ ap (command_tree es n) (sym e ∙ told)

    -- one that has parts is lower
    pub arith_lower : {x k : ArithNode} → x ≡ arith_form es bound n → x ≡ k → ArithParts k → n < bound
    unfolding arith_form
    arith_lower e told parts =
        elim (dec_le bound n) [
          | yes h ↦ absurd (rw (← told, e, le-ltb n bound h) at parts)
          | no h ↦ omega arith
        ]

    pub boolean_lower : {x k : BooleanNode} → x ≡ boolean_form es bound n → x ≡ k → BooleanParts k → n < bound
    unfolding boolean_form
    boolean_lower e told parts =
        elim (dec_le bound n) [
          | yes h ↦ absurd (rw (← told, e, le-ltb n bound h) at parts)
          | no h ↦ omega arith
        ]

    pub command_lower : {x k : CommandNode} → x ≡ command_form es bound n → x ≡ k → CommandParts k → n < bound
    unfolding command_form
    command_lower e told parts =
        elim (dec_le bound n) [
          | yes h ↦ absurd (rw (← told, e, le-ltb n bound h) at parts)
          | no h ↦ omega arith
        ]

-- what holds of two readings' leaves, and of their trees at an entry where it holds of all parts there, holds of every part below an entry up to which the two
-- have the same commands
pub by_parts : (es fs : Entries) (R : Command → Command → Type 0) (top : ℕ)
    → ((n : ℕ) → R (skip n) (skip n))
    → ((n : ℕ) → n < top → ((m : ℕ) → R (command_below (command_trees es n) m) (command_below (command_trees fs n) m))
    → R (command_tree es n (command_kind (es Commands n))) (command_tree fs n (command_kind (es Commands n))))
    → ((n : ℕ) → n < top → es Commands n ≡ fs Commands n)
    → (bound : ℕ) → bound ≤ top → (n : ℕ) → R (command_below (command_trees es bound) n) (command_below (command_trees fs bound) n)
by_parts es fs R top leaf tree same = from_below (λ (bound : ℕ). bound ≤ top → (n : ℕ) → R (command_below (command_trees es bound) n) (command_below (command_trees fs bound) n)) step
  where
    step : (bound : ℕ) → ((m : ℕ) → m < bound → m ≤ top → (n : ℕ) → R (command_below (command_trees es m) n) (command_below (command_trees fs m) n))
        → bound ≤ top → (n : ℕ) → R (command_below (command_trees es bound) n) (command_below (command_trees fs bound) n)
    step bound below h n =
        elim (dec_le bound n) [
          | yes l ↦ rw (command_past es bound n l, command_past fs bound n l) (leaf n)
          | no l ↦
              rw (command_below_lem es bound n (omega arith), command_below_lem fs bound n (omega arith), command_at_lem es n, command_at_lem fs n, ← same n (omega arith))
              (tree n (omega arith) (below n (omega arith) (omega arith)))
        ]
