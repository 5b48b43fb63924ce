-- `membership::find`: the chain is followed down to the record sought.
use Rattle.std.proofs.Common.{◌+◌, ◌<◌, arith}
use Rattle.analysis.specs.Records.{record_at}
use Rattle.analysis.proofs.Chains.{There, hash_small, walked_first, walked_there, walked_on, found_here, found_nowhere}
use Rattle.analysis.proofs.membership.find.Goals as goal
use Rattle.analysis.proofs.membership.find.Goals.{After-shared_slice_known-1, In-loop-link}

-- the record before the link
there : (c : In-loop-link) → let a = c.args in There (2 + a.memory.names) a.bytes.now a.index.now c.loop-link.link
there c =
    let p = c.requires in
    walked_there _ _ _ _ _ _ p.1 c.loop-link.link (omega (arith, c.loop-link-test.true)) (c.loop-link.invariant p.0 p.1)

small : (c : After-shared_slice_known-1) → c.args.h < 8192
small c = hash_small _ _ _ _ _ _ c.requires.1

pub overflow_cast-link : goal.overflow_cast-link
overflow_cast-link c = let x = c.requires.1 in omega (arith, (walked_first _ _ _ _ _ _ x).inside, x.indexed.few)

pub loop-link-init : goal.loop-link-init
loop-link-init c n x = walked_first _ _ _ _ _ _ x

pub returns-then-is_changed : goal.returns-then-is_changed
unfolding record_at
returns-then-is_changed c n x =
    found_here _ _ _ _ _ _ x c.loop-link.link (omega (arith, c.loop-link-test.true)) (c.loop-link.invariant n x) _ c.is_changed.ensures c.if-is_changed.true

pub loop-link-preserved : goal.loop-link-preserved
unfolding record_at
loop-link-preserved c n x =
    walked_on _ _ _ _ _ _ x c.loop-link.link (omega (arith, c.loop-link-test.true)) (c.loop-link.invariant n x) _ c.is_changed.ensures c.if-is_changed.false

pub returns : goal.returns
returns c n x = found_nowhere _ _ _ _ _ _ x _ c.loop-link-test.false (c.loop-link.invariant n x)

pub overflow_add-link : goal.overflow_add-link
overflow_add-link c =
    omega (arith, small (goal.at.overflow_add-link c).After-shared_slice_known-1)

pub offset_bounds-index-h : goal.offset_bounds-index-h
offset_bounds-index-h c =
    omega (arith, small (goal.at.offset_bounds-index-h c).After-shared_slice_known-1)

pub bounds-index-h : goal.bounds-index-h
bounds-index-h c =
    omega (arith, small (goal.at.bounds-index-h c).After-shared_slice_known-1)

pub overflow_mul-memory : goal.overflow_mul-memory
overflow_mul-memory c =
    omega (arith, (there (goal.at.overflow_mul-memory c).In-loop-link).room)

pub overflow_add-link-in-loop-link : goal.overflow_add-link-in-loop-link
overflow_add-link-in-loop-link c =
    omega (arith, there (goal.at.overflow_add-link-in-loop-link c).In-loop-link)

pub offset_bounds-index-k : goal.offset_bounds-index-k
offset_bounds-index-k c =
    omega (arith, there (goal.at.offset_bounds-index-k c).In-loop-link)

pub bounds-index-k : goal.bounds-index-k
bounds-index-k c =
    omega (arith, there (goal.at.bounds-index-k c).In-loop-link)

pub overflow_cast-link-in-loop-link : goal.overflow_cast-link-in-loop-link
overflow_cast-link-in-loop-link c =
    omega (arith, there (goal.at.overflow_cast-link-in-loop-link c).In-loop-link)

pub loop-link-smaller : goal.loop-link-smaller
loop-link-smaller c =
    (there (goal.at.loop-link-smaller c).In-loop-link).down
