-- The abstract syntax of Guarded Commands (book, Definitions 2.3 and 2.19, and section 2.5). Each node has the number of its entry.
use Rattle.std.specs.Prelude.{ℕ, ℤ}
use Rattle.signs.specs.declared.Comparison.{Comparison}
use Rattle.signs.specs.declared.Operator.{Operator}
use Rattle.program.specs.declared.Jump.{Jump}

-- arithmetic: a number, a variable, an element of an array, an operator on two sides
pub data Arith : Type 0 where
  number : ℕ → ℤ → Arith
  variable : ℕ → ℕ → Arith
  element : ℕ → ℕ → Arith → Arith
  operator : ℕ → Operator → Arith → Arith → Arith

-- booleans: true, a comparison, b ∧ b, b && b, ¬ b
pub data Boolean : Type 0 where
  truth : ℕ → Boolean
  comparison : ℕ → Comparison → Arith → Arith → Boolean
  conjunction : ℕ → Boolean → Boolean → Boolean
  short_circuit : ℕ → Boolean → Boolean → Boolean
  negation : ℕ → Boolean → Boolean

-- commands: skip, x := a, A[a] := a, C ; C, if GC fi, do GC od, break and continue; and guarded commands: b → C, GC [] GC
pub data Command : Type 0 where
  skip : ℕ → Command
  assign : ℕ → ℕ → Arith → Command
  store : ℕ → ℕ → Arith → Arith → Command
  sequence : ℕ → Command → Command → Command
  conditional : ℕ → Command → Command
  iteration : ℕ → Command → Command
  guarded : ℕ → Boolean → Command → Command
  choice : ℕ → Command → Command → Command
  jump : ℕ → Jump → Command

-- the entry of a tree
unfoldable pub boolean_entry : Boolean → ℕ
boolean_entry (truth n) = n
boolean_entry (comparison n c a b) = n
boolean_entry (conjunction n a b) = n
boolean_entry (short_circuit n a b) = n
boolean_entry (negation n a) = n

unfoldable pub command_entry : Command → ℕ
command_entry (skip n) = n
command_entry (assign n x a) = n
command_entry (store n x i a) = n
command_entry (sequence n c d) = n
command_entry (conditional n c) = n
command_entry (iteration n c) = n
command_entry (guarded n b c) = n
command_entry (choice n c d) = n
command_entry (jump n j) = n
