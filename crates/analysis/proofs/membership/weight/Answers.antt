-- `membership::weight`: the loop adds the terms up.
use Rattle.std.proofs.Common.{◌≡◌, ◌+◌, refl, ap, ◌∙◌, add-one, arith, rules}
use Rattle.analysis.specs.Parts.Membership.{weighted}
use Rattle.analysis.proofs.Hashes.{padded_at, padded_length}
use Rattle.analysis.proofs.membership.weight.Goals as goal

pub loop-i-init : goal.loop-i-init
unfolding weighted
loop-i-init c = (refl, search rules)

pub loop-i-preserved : goal.loop-i-preserved
unfolding weighted
loop-i-preserved c =
    let a = c.args in
    let l = c.loop-i in
    let p = c.requires in (
      rw (add-one, l.invariant.0, c.term-sum.ensures.value, padded_at a.bytes.now a.at a.names l.i p.1 c.loop-i-test.true, p.0.each (2 + l.i) (omega arith)),
      omega (arith, l.invariant.1, c.term-sum.ensures.small),
    )

pub returns : goal.returns
returns c =
    let l = c.loop-i in
    let all : l.i ≡ c.args.names = omega arith in
    record {
      front = record { few = c.requires.1; long = padded_length _ _ _ };
      weighed = l.invariant.0 ∙ ap (weighted 2 _) all;
      small = omega (arith, l.invariant, c.requires.1);
    }
