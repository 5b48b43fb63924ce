-- `judging::initial_listed`: the start record is read, and looked for as it is.
use Rattle.std.proofs.Common.{◌+◌, ◌*◌, ◌≤◌, length, ap, ◌∙◌, arith}
use Rattle.analysis.specs.Records.{has_at, record_count}
use Rattle.analysis.proofs.Laid.{record_inside}
use Rattle.analysis.proofs.Searching.{start_read, start_unchanged}
use Rattle.analysis.proofs.judging.initial_listed.Goals as goal
use Rattle.analysis.proofs.judging.initial_listed.Goals.{Start}

-- the record is inside the list
inside : (c : Start) → c.args.names * c.args.k + c.args.names ≤ length c.args.initial.now
unfolding record_count
inside c = record_inside _ _ _ c.requires.2

pub overflow_mul-at : goal.overflow_mul-at
overflow_mul-at c = record { fits = omega (arith, inside (goal.at.overflow_mul-at c).Start) }

pub weight-weight-requires : goal.weight-weight-requires
weight-weight-requires c = (c.requires.0.factored, c.requires.1, inside (goal.at.weight-weight-requires c).Start)

pub returns : goal.returns
returns c ns e =
    c.listed.ensures ns _ e c.requires.0 (start_read ns e c.requires.1 _ _ c.requires.2 _ c.read_memory.ensures)
    ∙ ap (has_at ns c.args.solution.now 0) (start_unchanged ns e c.requires.1 _ _ c.requires.2 _ c.read_memory.ensures 0)

pub read_memory-requires : goal.read_memory-requires
read_memory-requires c =
    (c.requires.1, inside (goal.at.read_memory-requires c).Start)
