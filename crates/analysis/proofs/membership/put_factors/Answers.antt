-- `membership::put_factors`: the factors passed are there, and zeros past all of them.
use Rattle.std.proofs.Common.{◌≡◌, length, take, add-one, arith, length-take-le, length-append, length-drop}
use Rattle.analysis.proofs.Chains.{indexed_none}
use Rattle.analysis.proofs.Hashes.{putting_none, putting_more, put_all, zeros_past}
use Rattle.analysis.proofs.membership.put_factors.Goals as goal

pub loop-entry-init : goal.loop-entry-init
loop-entry-init c = putting_none _

pub loop-entry-preserved : goal.loop-entry-preserved
loop-entry-preserved c =
    let l = c.loop-entry in
    rw add-one (putting_more l.entry-items l.factor l.entry-index (omega arith) l.invariant)

pub returns : goal.returns
returns c width bytes =
    let l = c.loop-entry in
    let all : length (take 34 c.args.index.now) ≡ 34 = length-take-le 34 c.args.index.now (omega arith) in
    let h : length l.entry-items ≡ 34 = omega arith in
    indexed_none width bytes _ (put_all l.entry-items _ l.factor l.entry-index (simp (length-append, length-drop) (omega arith)) h (omega arith) l.invariant)
    (λ i m. zeros_past l.entry-items c.args.index.now i h c.requires m)
