-- `splitting::split_by`: one law for each doubled width, from the largest to the width itself.
use Rattle.std.proofs.Common.{◌+◌, ◌-◌, leb, get_or, arith}
use mir.Val.{bool_byte}
use Rattle.analysis.specs.Parts.Doubling.{taken_off}
use Rattle.analysis.specs.Splitter.{split_place}
use Rattle.analysis.proofs.Doubling.{Off, none_off, one_less, all_off, few_off}
use Rattle.analysis.proofs.splitting.split_by.Goals as goal
use Rattle.analysis.proofs.splitting.split_by.Goals.{In-loop-k}

pub double-count-requires : goal.double-count-requires
double-count-requires c = c.requires

pub loop-k-init : goal.loop-k-init
loop-k-init c = none_off _ _ _ c.double-count.ensures.enough

-- one doubled width further
next : (c : In-loop-k) → let a = c.args in let l = c.loop-k in
    let w = get_or c.double-count.new.widths (l.k - 1) 0 in Off a.width a.place (l.k - 1) (l.«record» + l.«record» + bool_byte (leb w l.rest)) (taken_off l.rest w)
next c = one_less _ _ _ _ _ (omega arith) (c.double-count.ensures.held _ (omega arith)) c.loop-k.invariant

pub overflow_add-record : goal.overflow_add-record
overflow_add-record c = omega (arith, few_off _ _ _ _ _ c.requires (next (goal.at.overflow_add-record c).In-loop-k))

pub overflow_add-record-in-loop-k : goal.overflow_add-record-in-loop-k
overflow_add-record-in-loop-k c = omega (arith, few_off _ _ _ _ _ c.requires (next (goal.at.overflow_add-record-in-loop-k c).In-loop-k))

pub loop-k-preserved : goal.loop-k-preserved
loop-k-preserved c = rw c.take_off-rest.ensures (next (goal.at.loop-k-preserved c).In-loop-k)

pub returns : goal.returns
unfolding split_place
returns c = let found = all_off _ _ _ _ (omega (arith, c.loop-k-test.false)) c.loop-k.invariant in rw (found.0, found.1)
