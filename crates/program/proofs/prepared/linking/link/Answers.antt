-- `program::prepared::linking::link`: from the last edge on, each is put before those of its node.
use Prim.Native.Nat.{suc, ◌-◌}
use mathlib.Core.Path.{◌≡◌}
use native.Mathlib.Omega.{arith}
use Rattle.program.specs.Parts.LinkingParts.{Linkable}
use Rattle.program.proofs.Threads.{linkable_kept, held_inside, held_none, held_more, held_all}
use Rattle.program.proofs.prepared.linking.link.Goals as goal
use Rattle.program.proofs.prepared.linking.link.Goals.{After-clear}

-- the edges can still be linked where the links are cleared
linkable : (c : After-clear) → Linkable c.clear.new.graph
linkable c = linkable_kept c.clear.ensures.same c.requires

pub loop-e-init : goal.loop-e-init
loop-e-init c = (omega arith, rw c.edge_count-n.ensures (held_none c.clear.ensures))

pub link_edge-requires : goal.link_edge-requires
link_edge-requires c =
    let l = c.loop-e in
    let count = c.edge_count-n in
    let able = linkable (goal.at.link_edge-requires c).After-clear in
    let here : l.e ≡ suc (l.e - 1) = omega arith in
    (omega (arith, able.few, count.ensures), held_inside l.invariant.1 able _ (omega (arith, count.ensures)))

pub loop-e-preserved : goal.loop-e-preserved
loop-e-preserved c =
    let l = c.loop-e in
    let count = c.edge_count-n in
    let able = linkable (goal.at.loop-e-preserved c).After-clear in
    let e = l.e - 1 in
    let here : l.e ≡ suc e = omega arith in
    (omega arith, rw c.link_edge.ensures (held_more _ able.few l.graph e (omega (arith, count.ensures)) (able.inside e (omega (arith, count.ensures))) (rw here at l.invariant.1)))

pub returns : goal.returns
returns c =
    let l = c.loop-e in
    let none : l.e ≡ 0 = omega arith in
    held_all _ (linkable (goal.at.returns c).After-clear).few _ _ c.clear.ensures.same (rw none at l.invariant.1)
