-- `Runner::run_array`: each turn takes the edge that the definition takes.
use mathlib.Core.Logic.{inl, inr}
use mathlib.Core.Path.{◌≡◌}
use Prim.Native.Nat.{◌+◌, ◌-◌}
use native.Mathlib.Nat.{sub-zero}
use native.Mathlib.Omega.{arith}
use Rattle.semantics.proofs.Turns.{reached_start, reached_more, reached_stuck, stops_as}
use Rattle.semantics.proofs.running.Runner.run_array.Goals as goal
use Rattle.semantics.proofs.running.Runner.run_array.Goals.{else-loop-test, then-loop-test+then-run-eq1}

pub loop-init : goal.loop-init
loop-init c ns g p numbers = rw sub-zero (reached_start _ _ _ _ _ _ c.fresh-run.ensures numbers)

pub returns-then-e-ge-NONE : goal.returns-then-e-ge-NONE
returns-then-e-ge-NONE c ns g p numbers =
    let l = c.loop in
    let here = l.invariant ns g p numbers in
    reached_stuck ns g _ _ _ _ l.run l.memory here (omega arith) c.if-run-eq1.false
    _ _ (c.take_lowest-e.ensures ns g p here.numbers here.inside) c.if-e-ge-NONE.true

pub loop-preserved : goal.loop-preserved
loop-preserved c ns g p numbers =
    let l = c.loop in
    let here = l.invariant ns g p numbers in
    let left : c.args.budget - (l.counter + 1) ≡ c.args.budget - l.counter - 1 = omega arith in
    rw left
    (reached_more p _ _ _ l.run l.memory here (omega arith) c.if-run-eq1.false
    _ _ (c.take_lowest-e.ensures ns g p here.numbers here.inside) c.if-e-ge-NONE.false _ c.edge_target.ensures _ c.moved-run.ensures)

pub returns : goal.returns
returns c ns g p numbers =
    let l = c.loop in
    stops_as ns g _ _ _ _ l.run _ _ (l.invariant ns g p numbers)
    (elim c.loop-test.branch [ then-loop-test+then-run-eq1 w ↦ inl w.if-run-eq1.true | else-loop-test w ↦ inr (omega arith) ])
    c.stopped.ensures
