-- `splitting::double`: as long as a doubling is at most the place, it is written.
use Rattle.std.proofs.Common.{◌<◌, ◌≢◌, length, refl, add-one, arith, below_more, get_or-set_other, get_or-set_same}
use Rattle.analysis.specs.Parts.Doubling as spec
use Rattle.analysis.proofs.Doubling.{few_doublings, doubled_positive}
use Rattle.analysis.proofs.splitting.double.Goals as goal
use Rattle.analysis.proofs.splitting.double.Goals.{In-loop-doubled}

pub loop-doubled-init : goal.loop-doubled-init
unfolding spec.doubled
loop-doubled-init c = (omega arith, refl, λ k h. absurd (omega arith))

-- there is room for one more
inside : (c : In-loop-doubled) → c.loop-doubled.count < 32
inside c = few_doublings _ _ c.requires (omega (arith, c.loop-doubled.invariant.1))

pub bounds-widths-count : goal.bounds-widths-count
bounds-widths-count c = inside (goal.at.bounds-widths-count c).In-loop-doubled

pub loop-doubled-smaller : goal.loop-doubled-smaller
loop-doubled-smaller c = omega (arith, c.loop-doubled.invariant.1, doubled_positive _ c.loop-doubled.count c.requires)

pub loop-doubled-preserved : goal.loop-doubled-preserved
unfolding spec.doubled
loop-doubled-preserved c =
    let l = c.loop-doubled in
    let few = inside (goal.at.loop-doubled-preserved c).In-loop-doubled in
    let room : l.count < length l.widths = omega arith in (
      omega arith,
      rw (add-one, l.invariant.1),
      below_more _ _ (λ k h. let other : k ≢ l.count = omega arith in rw get_or-set_other (l.invariant.2 k h)) (rw get_or-set_same l.invariant.1),
    )

pub returns : goal.returns
returns c =
    let l = c.loop-doubled in
    record { few = l.invariant.0; held = l.invariant.2; enough = omega (arith, l.invariant.1) }
