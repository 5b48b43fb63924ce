-- `stepping::put_numbers`: the numbers passed are put, and the other cells are as they were.
use Rattle.semantics.proofs.Padding.{Numbering}
use Rattle.semantics.proofs.stepping.put_numbers.Given as goal

abbrev pub invariant-loop-n : goal.invariant-loop-n
invariant-loop-n l = Numbering l.code l.initial.cells l.cells l.n
