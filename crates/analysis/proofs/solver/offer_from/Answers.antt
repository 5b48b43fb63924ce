-- `solver::offer_from`: the record's signs and node are read, and what follows them is offered.
use Rattle.std.proofs.Common.{◌+◌, ◌*◌, ◌≤◌, List, length, get_or, sym, ◌∙◌, arith}
use Rattle.program.specs.Parts.Prepared.{Coded, name_count_place}
use Rattle.analysis.specs.Parts.Judging.{ReadInto}
use Rattle.analysis.specs.Records.{record_at, memory_of}
use Rattle.analysis.specs.Parts.Solving.{Growing}
use Rattle.analysis.proofs.Chains.{record_inside}
use Rattle.analysis.proofs.Descending.{record_offered}
use Rattle.analysis.proofs.Laid.{memory_reads}
use Rattle.analysis.proofs.solver.offer_from.Goals as goal
use Rattle.analysis.proofs.solver.offer_from.Goals.{After-name_count-names, After-read_memory}

-- the buffer by the number of names, and that the record is inside it
told : (c : After-name_count-names) → let a = c.args in Growing (2 + c.name_count-names.result) a.buffer.now a.index.now a.p
told c = rw c.name_count-names.ensures c.requires.0

inside : (c : After-name_count-names) → let a = c.args in (2 + c.name_count-names.result) * a.k + (2 + c.name_count-names.result) ≤ length a.buffer.now
inside c = record_inside _ _ _ _ c.requires.1 (told c).indexed.room

pub weight-weight-requires : goal.weight-weight-requires
weight-weight-requires c =
    ((told (goal.at.weight-weight-requires c).After-name_count-names).indexed.factored, omega (arith, (told (goal.at.weight-weight-requires c).After-name_count-names).wide), omega (arith, inside (goal.at.weight-weight-requires c).After-name_count-names))

-- the record's memory as it was read
read : (c : After-read_memory) → let a = c.args in
    Growing (2 + c.name_count-names.result) a.buffer.now a.index.now a.p
    → (2 + c.name_count-names.result) * a.k + (2 + c.name_count-names.result) ≤ length a.buffer.now
    → (ns : List _) → Coded ns a.machine.code.now → ReadInto (memory_of ns (record_at (2 + get_or a.machine.code.now name_count_place 0) a.buffer.now a.k)) c.read_memory.new.out (length ns)
read c grown room ns x =
    let e = c.name_count-names.ensures in
    let y = memory_reads _ c.args.k _ ns (sym (e ∙ x.count)) (omega (arith, grown.wide)) room _ c.read_memory.ensures in
    rw (← x.count) (rw e at y)

pub returns : goal.returns
returns c =
    let p = goal.at.returns c in
    let counted = p.After-name_count-names in
    record {
      extended = c.offer_successors.ensures.extended;
      offers = λ ns g room x q.
          record_offered ns _ g _ _ c.args.k c.requires.1 room (rw c.name_count-names.ensures at c.word_at-node.ensures)
          (c.offer_successors.ensures.offers ns g _ room x (read p.After-read_memory (told counted) (inside counted) ns x.coded) q);
    }

pub overflow_add-at : goal.overflow_add-at
overflow_add-at c =
    omega (arith, (told (goal.at.overflow_add-at c).After-name_count-names).wide)

pub overflow_mul-at : goal.overflow_mul-at
overflow_mul-at c =
    omega (arith, inside (goal.at.overflow_mul-at c).After-name_count-names)

pub overflow_add-at-2 : goal.overflow_add-at-2
overflow_add-at-2 c =
    omega (arith, inside (goal.at.overflow_add-at-2 c).After-name_count-names)

pub read_memory-requires : goal.read_memory-requires
read_memory-requires c =
    (omega (arith, (told (goal.at.read_memory-requires c).After-name_count-names).wide), omega (arith, inside (goal.at.read_memory-requires c).After-name_count-names))

pub overflow_add-at-3 : goal.overflow_add-at-3
overflow_add-at-3 c =
    omega (arith, inside (goal.at.overflow_add-at-3 c).After-name_count-names)
