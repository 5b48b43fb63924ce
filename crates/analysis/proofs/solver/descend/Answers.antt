-- `solver::descend`: the turns left from here are those of the definition.
use Rattle.std.proofs.Common.{◌<◌, ◌∙◌, arith}
use borrow.Author.Tests.{not-false}
use Rattle.analysis.proofs.Descending.{descended_start, descended_more, descended_end, descended_full}
use Rattle.analysis.proofs.Growing.{extended_none, extended_more, found_count, found_full}
use Rattle.analysis.proofs.solver.descend.Goals as goal
use Rattle.analysis.proofs.solver.descend.Goals.{In-loop-k}

pub loop-k-init : goal.loop-k-init
loop-k-init c = (extended_none _ _ _ _ c.requires, λ ns g room x q. descended_start _ _ _ _)

pub offer_from-progress-requires : goal.offer_from-progress-requires
offer_from-progress-requires c =
    (c.loop-k.invariant.0.growing, c.loop-k-test.true)

-- the turn's place is one of the room
inside : (c : In-loop-k) → c.loop-k.k < c.args.p.room
inside c = let x = c.loop-k.invariant.0 in omega (arith, c.loop-k-test.true, x.growing.few, x.room)

pub overflow_add-k : goal.overflow_add-k
overflow_add-k c =
    let x = c.loop-k.invariant.0 in
    omega (arith, inside (goal.at.overflow_add-k c).In-loop-k, x.room, x.growing.most)

pub loop-k-preserved : goal.loop-k-preserved
loop-k-preserved c =
    let l = c.loop-k in
    let many = found_count l.invariant.0.growing in (
      extended_more _ l.invariant.0 c.offer_from-progress.ensures.extended,
      λ ns g room x q.
          descended_more _ _ _ l.k _ (omega (arith, c.loop-k-test.true, many)) (omega (arith, l.invariant.0.growing.few, l.invariant.0.room, q, many))
          (c.offer_from-progress.ensures.offers ns g room x (l.invariant.0.room ∙ q)) (l.invariant.1 ns g room x q),
    )

pub returns-else-not-progress : goal.returns-else-not-progress
returns-else-not-progress c =
    let l = c.loop-k in
    record { extended = l.invariant.0; offers = λ ns g room x q. descended_full _ _ _ l.k _ (found_full _ _ _ ∙ not-false _ c.if-not-progress.false) (l.invariant.1 ns g room x q) }

pub returns-after-loop-k : goal.returns-after-loop-k
returns-after-loop-k c =
    let l = c.loop-k in
    record { extended = l.invariant.0; offers = λ ns g room x q. descended_end _ _ _ l.k _ (omega (arith, c.loop-k-test.false, found_count l.invariant.0.growing)) (l.invariant.1 ns g room x q) }

pub loop-k-smaller : goal.loop-k-smaller
loop-k-smaller c =
    omega (arith, inside (goal.at.loop-k-smaller c).In-loop-k)
