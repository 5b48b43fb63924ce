-- `prepared::boolean_node` meets its contract.
use borrow.Author.Tests.{lt-ltb, le-ltb}
use Rattle.program.specs.Kind.{boolean_kind}
use Rattle.program.specs.Parts.Node.{boolean_form}
use Rattle.program.specs.Parts.Prepared.{numbers_at, entries_in}
use Rattle.program.proofs.prepared.boolean_node.Goals as goal
use Rattle.program.proofs.prepared.boolean_node.Goals.{then-bound-n-via-then-bound-n, then-bound-n-via-else-bound-n+then-n-ge-CONDITIONS}

pub returns-then-bound-n : goal.returns-then-bound-n
unfolding boolean_form boolean_kind entries_in
returns-then-bound-n c graph =
    elim c.then-bound-n.branch [
      | then-bound-n-via-then-bound-n w ↦ rw (le-ltb _ _ w.if-bound-n.true)
      | then-bound-n-via-else-bound-n+then-n-ge-CONDITIONS w ↦ rw (lt-ltb _ _ w.if-bound-n.false, le-ltb _ _ w.if-n-ge-CONDITIONS.true)
    ]

pub returns : goal.returns
unfolding boolean_form boolean_kind entries_in numbers_at
returns c graph =
    rw (lt-ltb _ _ c.if-bound-n.false, lt-ltb _ _ c.if-n-ge-CONDITIONS.false) c.boolean_kind.ensures
