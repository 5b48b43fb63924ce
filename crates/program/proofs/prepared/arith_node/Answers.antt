-- `prepared::arith_node` meets its contract.
use borrow.Author.Tests.{lt-ltb, le-ltb}
use Rattle.program.specs.Kind.{arith_kind}
use Rattle.program.specs.File.{signed32}
use Rattle.program.specs.Parts.Node.{arith_form}
use Rattle.program.specs.Parts.Prepared.{entries_in, arith_in}
use Rattle.program.proofs.prepared.arith_node.Goals as goal
use Rattle.program.proofs.prepared.arith_node.Goals.{then-bound-n-via-then-bound-n, then-bound-n-via-else-bound-n+then-n-ge-EXPRESSIONS}

pub returns-then-bound-n : goal.returns-then-bound-n
unfolding arith_form arith_kind entries_in signed32
returns-then-bound-n c graph =
    elim c.then-bound-n.branch [
      | then-bound-n-via-then-bound-n w ↦ rw (le-ltb _ _ w.if-bound-n.true)
      | then-bound-n-via-else-bound-n+then-n-ge-EXPRESSIONS w ↦ rw (lt-ltb _ _ w.if-bound-n.false, le-ltb _ _ w.if-n-ge-EXPRESSIONS.true)
    ]

pub returns : goal.returns
unfolding arith_form arith_in entries_in
returns c graph = rw (lt-ltb _ _ c.if-bound-n.false, lt-ltb _ _ c.if-n-ge-EXPRESSIONS.false) c.arith_at.ensures
