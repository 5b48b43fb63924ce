-- `Runner::first_true`: the links are followed up to the first guard that does not fail.
use Prim.Native.Nat.{◌<◌}
use native.Mathlib.Omega.{arith}
use lib.ListN.{get_or}
use Rattle.program.specs.Parts.Prepared.{edge_count_place}
use Rattle.program.proofs.Laws.{next_is_followed, next_is_beyond}
use Rattle.semantics.specs.Parts.Selecting.{Fails}
use Rattle.semantics.proofs.Coded.{tested, one_decided}
use Rattle.semantics.proofs.Tested.{known_holds, fault_holds_not, fault_fails, known_fails, own_truth, none_holds, one_holds, none_defined}
use Rattle.semantics.proofs.running.Runner.first_true.Goals as goal
use Rattle.semantics.proofs.running.Runner.first_true.Goals.{In-loop-k}

-- the edge whose guard is tested exists
there : (c : In-loop-k) → c.loop-k.k < get_or c.args.self.machine.graph.now edge_count_place 0
there c = omega (arith, c.loop-k-test.true, c.edge_count-count.ensures)

pub returns-then-is_true : goal.returns-then-is_true
returns-then-is_true c ns g node p numbers o =
    let truth = own_truth p numbers (omega (arith, p.edges, there (goal.at.returns-then-is_true c).In-loop-k)) c.own-v.ensures in
    one_holds p _ o c.loop-k.k (c.loop-k.invariant ns g node p numbers o) (there (goal.at.returns-then-is_true c).In-loop-k)
    (known_holds truth (one_decided _ (tested c.is_true.ensures c.if-is_true.true)))

pub returns-then-is_fault : goal.returns-then-is_fault
returns-then-is_fault c ns g node p numbers o =
    let truth = own_truth p numbers (omega (arith, p.edges, there (goal.at.returns-then-is_fault c).In-loop-k)) c.own-v.ensures in
    let fault = tested c.is_fault.ensures c.if-is_fault.true in
    none_defined p _ o c.loop-k.k (c.loop-k.invariant ns g node p numbers o) (there (goal.at.returns-then-is_fault c).In-loop-k) (fault_fails truth fault) (fault_holds_not truth fault)

pub loop-k-smaller : goal.loop-k-smaller
loop-k-smaller c =
    let more = next_is_beyond c.args.self.linked c.loop-k.k (there (goal.at.loop-k-smaller c).In-loop-k) in
    omega (arith, c.next_edge-k.ensures, c.loop-k-test.true)

pub loop-k-preserved : goal.loop-k-preserved
unfolding Fails
loop-k-preserved c ns g node p numbers o =
    let truth = own_truth p numbers (omega (arith, p.edges, there (goal.at.loop-k-preserved c).In-loop-k)) c.own-v.ensures in
    let sound = tested c.is_fault.ensures c.if-is_fault.false in
    rw c.next_edge-k.ensures
    (next_is_followed c.args.self.linked node _ c.loop-k.k (there (goal.at.loop-k-preserved c).In-loop-k) (c.loop-k.invariant ns g node p numbers o)
    (known_fails truth sound (tested c.is_true.ensures c.if-is_true.false)))

pub returns : goal.returns
returns c ns g node p numbers o =
    none_holds p _ o c.loop-k.k (c.loop-k.invariant ns g node p numbers o) (omega (arith, c.loop-k-test.false, c.edge_count-count.ensures))
