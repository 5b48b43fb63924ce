-- `Runner::take_lowest`: the links are followed up to the first edge that is performed.
use Prim.Native.Nat.{◌<◌}
use mathlib.Core.Bool.{false}
use mathlib.Core.Path.{◌≡◌, refl, sym, ◌∙◌}
use native.Mathlib.Omega.{arith}
use lib.ListN.{get_or}
use Rattle.program.specs.Parts.Prepared.{edge_count_place, action_in, is_guard_node}
use Rattle.program.proofs.Laws.{first_is_followed, next_is_followed, next_is_beyond}
use Rattle.semantics.proofs.Choosing.{none_taken, taken_here, undefined_here, unchanged_here}
use Rattle.semantics.proofs.Opened.{opens}
use Rattle.semantics.proofs.running.Runner.take_lowest.Goals as goal
use Rattle.semantics.proofs.running.Runner.take_lowest.Goals.{Else-guards, In-loop-e}

pub loop-e-init : goal.loop-e-init
loop-e-init c ns g p numbers h =
    let linked = c.args.self.linked in
    record {
      following = rw c.first_edge-e.ensures (first_is_followed linked _ _ h);
      unguarded = rw c.first_edge-e.ensures (first_is_followed linked _ _ h);
      memory = refl;
    }

-- the edge that is looked at exists
there : (c : In-loop-e) → c.loop-e.e < get_or c.args.self.machine.graph.now edge_count_place 0
there c = omega (arith, c.loop-e-test.true, c.edge_count-count.ensures)

pub returns-then-guards : goal.returns-then-guards
returns-then-guards c ns g p numbers h =
    let here = c.loop-e.invariant ns g p numbers h in
    rw (← here.memory)
    (c.first_true.ensures ns g _ p (rw here.memory numbers) (opens p here.unguarded (there (goal.at.returns-then-guards c).In-loop-e) (sym c.guards.ensures ∙ c.if-guards.true)))

-- the edge is no guard's of the deterministic graph
plain : (c : Else-guards) → is_guard_node (action_in c.args.self.machine.graph.now c.loop-e.e) ≡ false
plain c = sym c.guards.ensures ∙ c.if-guards.false

pub returns-then-perform : goal.returns-then-perform
returns-then-perform c ns g p numbers h =
    taken_here p (c.loop-e.invariant ns g p numbers h) numbers (there (goal.at.returns-then-perform c).In-loop-e) (plain (goal.at.returns-then-perform c).Else-guards) (rw (c.plain_action-action.ensures (plain (goal.at.returns-then-perform c).Else-guards)) at c.perform.ensures) c.if-perform.true

pub loop-e-smaller : goal.loop-e-smaller
loop-e-smaller c =
    let more = next_is_beyond c.args.self.linked c.loop-e.e (there (goal.at.loop-e-smaller c).In-loop-e) in
    omega (arith, c.next_edge-e.ensures, c.loop-e-test.true)

pub loop-e-preserved : goal.loop-e-preserved
loop-e-preserved c ns g p numbers h =
    let linked = c.args.self.linked in
    let here = c.loop-e.invariant ns g p numbers h in
    let found = rw (c.plain_action-action.ensures (plain (goal.at.loop-e-preserved c).Else-guards)) at c.perform.ensures in
    record {
      following = rw c.next_edge-e.ensures
          (next_is_followed linked _ _ c.loop-e.e (there (goal.at.loop-e-preserved c).In-loop-e) here.following (undefined_here p here numbers (there (goal.at.loop-e-preserved c).In-loop-e) (plain (goal.at.loop-e-preserved c).Else-guards) found c.if-perform.false));
      unguarded = rw c.next_edge-e.ensures (next_is_followed linked _ _ c.loop-e.e (there (goal.at.loop-e-preserved c).In-loop-e) here.unguarded (plain (goal.at.loop-e-preserved c).Else-guards));
      memory = unchanged_here p here numbers (there (goal.at.loop-e-preserved c).In-loop-e) (plain (goal.at.loop-e-preserved c).Else-guards) found c.if-perform.false;
    }

pub returns : goal.returns
returns c ns g p numbers h = none_taken p (c.loop-e.invariant ns g p numbers h) (omega (arith, c.loop-e-test.false, c.edge_count-count.ensures))
