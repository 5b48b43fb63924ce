-- `solver::offer_initial`: the records passed were offered.
use Rattle.std.proofs.Common.{◌≡◌, ◌+◌, ◌*◌, ◌/◌, ◌≤◌, length, refl, ap, ◌∙◌, add-one, arith}
use lib.Seq.{set_out}
use Rattle.signs.specs.Lists.{tabulate}
use Rattle.analysis.specs.Parts.Judging.{ReadInto}
use Rattle.analysis.specs.Records.{record_at}
use Rattle.analysis.specs.Solver.{offer}
use Rattle.analysis.proofs.Growing.{extended_none, extended_more, tabulated_more, starts_all}
use Rattle.analysis.proofs.Laid.{start_reads, record_inside}
use Rattle.analysis.proofs.solver.offer_initial.Goals as goal
use Rattle.analysis.proofs.solver.offer_initial.Goals.{After-read_memory, In-loop-k}

pub loop-k-init : goal.loop-k-init
unfolding tabulate
loop-k-init c = (extended_none _ _ _ _ c.requires.0, λ ns room e q. refl)

-- the record passed is inside the list
inside : (c : In-loop-k) → let a = c.args in a.names * c.loop-k.k + a.names ≤ length a.initial.now
inside c = record_inside _ _ c.loop-k.k c.loop-k-test.true

-- the record as it was read
read : (c : After-read_memory)
    → let a = c.args in a.names * c.loop-k.k + a.names ≤ length a.initial.now → ReadInto (record_at a.names a.initial.now c.loop-k.k) c.read_memory.new.out a.names
read c room =
    start_reads _ c.loop-k.k _ (omega (arith, c.loop-k.invariant.0.growing.wide)) room _ c.read_memory.ensures

pub weight-weight-requires : goal.weight-weight-requires
weight-weight-requires c =
    let g = c.loop-k.invariant.0.growing in
    (g.indexed.factored, omega (arith, g.wide), inside (goal.at.weight-weight-requires c).In-loop-k)

pub loop-k-preserved : goal.loop-k-preserved
loop-k-preserved c =
    let l = c.loop-k in
    let p = goal.at.loop-k-preserved c in
    let passed = read p.After-read_memory (inside p.In-loop-k) in (
      extended_more _ l.invariant.0 c.offer-progress.ensures.extended,
      λ ns room e q. rw add-one
          (tabulated_more _ _ _ l.k
          (c.offer-progress.ensures.offers ns _ room e passed (l.invariant.0.room ∙ q) (omega arith) ∙ ap (offer ns room 0 _) (set_out _ 32 0 (omega (arith, passed.sized, l.invariant.0.growing.wide))))
          (l.invariant.1 ns room e q)),
    )

pub returns : goal.returns
returns c =
    let l = c.loop-k in
    let a = c.args in
    let all : l.k ≡ length a.initial.now / a.names = omega arith in
    record { extended = l.invariant.0; offers = λ ns room e q. starts_all ns e _ _ _ (rw all at (l.invariant.1 ns room e q)) }

pub overflow_mul-at : goal.overflow_mul-at
overflow_mul-at c =
    omega (arith, inside (goal.at.overflow_mul-at c).In-loop-k)

pub read_memory-requires : goal.read_memory-requires
read_memory-requires c =
    (omega (arith, c.loop-k.invariant.0.growing.wide), inside (goal.at.read_memory-requires c).In-loop-k)
