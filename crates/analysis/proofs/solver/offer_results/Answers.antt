-- `solver::offer_results`: what is left of the sets is offered to the list so far.
use Rattle.std.proofs.Common.{◌%◌, set, refl, ◌∙◌, arith}
use Rattle.analysis.specs.Solver.{offer}
use Rattle.analysis.proofs.Growing.{extended_none, extended_more, sets_more, sets_end}
use Rattle.analysis.proofs.solver.offer_results.Goals as goal

pub loop-sets-init : goal.loop-sets-init
loop-sets-init c =
    rw c.sets_of-sets.ensures (c.requires.1, extended_none _ _ _ _ c.requires.0, λ ns ρ room e y q. refl)

pub loop-sets-smaller : goal.loop-sets-smaller
loop-sets-smaller c = omega (arith, c.other_sets-sets.ensures, c.loop-sets-test.true)

pub loop-sets-preserved : goal.loop-sets-preserved
loop-sets-preserved c =
    let l = c.loop-sets in
    rw c.other_sets-sets.ensures (
      omega (arith, l.invariant.0),
      extended_more _ l.invariant.1 c.offer-progress.ensures.extended,
      λ ns ρ room e y q.
          sets_more (offer ns room c.args.node) (set ρ (c.args.found % 64)) l.sets c.loop-sets-test.true l.invariant.0
          (rw (c.name_of-name.ensures, c.first_set.ensures) at (c.offer-progress.ensures.offers ns ρ room e y (l.invariant.1.room ∙ q) c.ranges.node.fits)) (l.invariant.2 ns ρ room e y q),
    )

pub returns : goal.returns
returns c =
    let l = c.loop-sets in
    record { extended = l.invariant.1; offers = λ ns ρ room e y q. sets_end _ _ l.sets c.loop-sets-test.false (l.invariant.2 ns ρ room e y q) }
