-- What an action means (document 01, "The graph"; book, Definitions 2.7 and 2.19 and Exercise 2.20). Whatever is said of actions above, what one does to a memory, its
-- results, its index sets, is said of this.
use Rattle.std.specs.Prelude.{ℕ}
use Rattle.program.specs.Graph.{Action, perform, test, leave, select, done, selected}
use Rattle.program.specs.Syntax.{Arith, Boolean, Command, skip, assign, store, sequence, conditional, iteration, guarded, choice, jump}

-- what an action means: nothing, x := a, A[i] := a, or that a condition holds
pub data Meaning : Type 0 where
  nothing : Meaning
  assigns : ℕ → Arith → Meaning
  stores : ℕ → Arith → Arith → Meaning
  condition : Boolean → Meaning

-- skip, an assignment or a store; break and continue, each of which "gives one arrow that acts as skip" (order 7). No other command is performed by an edge, and
-- none means anything here
unfoldable pub performing : Command → Meaning
performing (skip k) = nothing
performing (assign k x a) = assigns x a
performing (store k x i a) = stores x i a
performing (sequence k c d) = nothing
performing (conditional k c) = nothing
performing (iteration k c) = nothing
performing (guarded k b c) = nothing
performing (choice k c d) = nothing
performing (jump k j) = nothing

-- "Action kind 1 is the command entry itself, 2 a boolean entry, 3 the exit of the do whose operand is that command entry."; order 8: kind 4 is a guard with the
-- falsehood of the earlier ones
unfoldable pub meaning : Action → Meaning
meaning (perform c) = performing c
meaning (test b) = condition b
meaning (leave c) = condition (done c)
meaning (select k earlier b) = condition (selected earlier b)
