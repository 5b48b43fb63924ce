-- `membership::put_index`: the records passed are in their chains.
use Rattle.std.proofs.Common.{◌+◌, ◌*◌, ◌/◌, ◌≡◌, ◌≤◌, length, mul-suc, add-one, arith}
use native.Mathlib.Nat.{mul-div-le}
use Rattle.analysis.specs.Records.{record_at, record_count}
use Rattle.analysis.proofs.Chains.{record_inside, bucket_small}
use Rattle.analysis.proofs.membership.put_index.Goals as goal
use Rattle.analysis.proofs.membership.put_index.Goals.{Start, In-loop-k}

-- the record is there
there : (c : In-loop-k) → let a = c.args in (2 + a.names) * c.loop-k.k + (2 + a.names) ≤ length a.bytes.now
there c =
    let a = c.args in
    record_inside (2 + a.names) c.loop-k.k (length a.bytes.now / (2 + a.names)) (length a.bytes.now) c.loop-k-test.true
    (mul-div-le (length a.bytes.now) (2 + a.names))

counted : (c : Start) → length c.args.bytes.now / (2 + c.args.names) ≤ 4096
unfolding record_count
counted c = c.requires.2

pub loop-k-init : goal.loop-k-init
loop-k-init c = c.put_factors.ensures _ _

pub hash_at-h-requires : goal.hash_at-h-requires
hash_at-h-requires c = (c.loop-k.invariant.factored, c.requires.1, there (goal.at.hash_at-h-requires c).In-loop-k)

pub enter-requires : goal.enter-requires
enter-requires c =
    (omega (arith, counted (goal.at.enter-requires c).Start, c.loop-k-test.true), rw c.hash_at-h.ensures (bucket_small _))

pub loop-k-preserved : goal.loop-k-preserved
unfolding record_at
loop-k-preserved c =
    let a = c.args in
    let room = there (goal.at.loop-k-preserved c).In-loop-k in
    rw add-one (c.enter.ensures (2 + a.names) a.bytes.now c.loop-k.invariant (omega (arith, mul-suc (2 + a.names) c.loop-k.k, room)) c.hash_at-h.ensures)

pub returns : goal.returns
unfolding record_count
returns c =
    let all : c.loop-k.k ≡ length c.args.bytes.now / (2 + c.args.names) = omega arith in
    rw (← all) c.loop-k.invariant

pub overflow_mul-names : goal.overflow_mul-names
overflow_mul-names c =
    omega (arith, there (goal.at.overflow_mul-names c).In-loop-k)
