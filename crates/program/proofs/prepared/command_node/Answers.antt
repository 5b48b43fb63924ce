-- `prepared::command_node` meets its contract.
use borrow.Author.Tests.{lt-ltb, le-ltb}
use Rattle.program.specs.Kind.{command_kind}
use Rattle.program.specs.Parts.Node.{command_form}
use Rattle.program.specs.Parts.Prepared.{numbers_at, entries_in}
use Rattle.program.proofs.prepared.command_node.Goals as goal
use Rattle.program.proofs.prepared.command_node.Goals.{then-bound-n-via-then-bound-n, then-bound-n-via-else-bound-n+then-n-ge-COMMANDS}

pub returns-then-bound-n : goal.returns-then-bound-n
unfolding command_form command_kind entries_in
returns-then-bound-n c code =
    elim c.then-bound-n.branch [
      | then-bound-n-via-then-bound-n w ↦ rw (le-ltb _ _ w.if-bound-n.true)
      | then-bound-n-via-else-bound-n+then-n-ge-COMMANDS w ↦ rw (lt-ltb _ _ w.if-bound-n.false, le-ltb _ _ w.if-n-ge-COMMANDS.true)
    ]

pub returns : goal.returns
unfolding command_form command_kind entries_in numbers_at
returns c code =
    rw (lt-ltb _ _ c.if-bound-n.false, lt-ltb _ _ c.if-n-ge-COMMANDS.false) c.command_kind.ensures
