-- `solver::offer_successors`: along the links, what follows each edge passed was offered, or all that follows from a guard of the deterministic graph on.
use Rattle.std.proofs.Common.{◌≡◌, ◌<◌, Bool, get_or, sym, ap, ◌∙◌, arith}
use Rattle.program.specs.Parts.Prepared.{action_in, is_guard_node, edge_count_place}
use Rattle.program.proofs.Laws.{next_is_beyond, first_is_followed, next_is_followed}
use Rattle.analysis.proofs.Descending.{first_leaves, next_leaves, first_along, next_along, all_along, guarded_all}
use Rattle.analysis.proofs.Growing.{extended_none, extended_more}
use Rattle.analysis.proofs.solver.offer_successors.Goals as goal
use Rattle.analysis.proofs.solver.offer_successors.Goals.{After-guards, In-loop-e}

pub loop-e-init : goal.loop-e-init
loop-e-init c =
    rw c.first_edge-e.ensures
    (first_leaves c.args.machine.linked _, extended_none _ _ _ _ c.requires.0, λ ns g ρ room x y q. first_along c.args.machine.linked _ x _ _, λ h. first_is_followed c.args.machine.linked _ _ h)

-- the edge is one of the graph's
inside : (c : In-loop-e) → c.loop-e.e < get_or c.args.machine.graph.now edge_count_place 0
inside c = omega (arith, c.loop-e-test.true, c.edge_count-count.ensures)

-- whether it is a guard's of the deterministic graph
guard : (c : After-guards) {b : Bool} → c.guards.result ≡ b
    → is_guard_node (action_in c.args.machine.graph.now c.loop-e.e) ≡ b
guard c t = sym c.guards.ensures ∙ t

pub returns-then-guards : goal.returns-then-guards
returns-then-guards c =
    let l = c.loop-e in
    let w = c.args.machine.linked in record {
      extended = extended_more _ l.invariant.1 c.offer_guarded.ensures.extended;
      offers = λ ns g ρ room x y q.
          guarded_all x y w room _ l.e (inside (goal.at.returns-then-guards c).In-loop-e) (l.invariant.0 (inside (goal.at.returns-then-guards c).In-loop-e)) l.invariant.3 (guard (goal.at.returns-then-guards c).After-guards c.if-guards.true) (l.invariant.2 ns g ρ room x y q)
          (λ n. c.offer_guarded.ensures.offers ns g ρ room _ x y (l.invariant.1.room ∙ q) n);
    }

pub loop-e-smaller : goal.loop-e-smaller
loop-e-smaller c =
    let more = next_is_beyond c.args.machine.linked c.loop-e.e (inside (goal.at.loop-e-smaller c).In-loop-e) in
    omega (arith, c.next_edge-e.ensures, inside (goal.at.loop-e-smaller c).In-loop-e)

pub loop-e-preserved : goal.loop-e-preserved
loop-e-preserved c =
    let plain = guard (goal.at.loop-e-preserved c).After-guards c.if-guards.false in
    let told = c.plain_action-action.ensures plain in
    let l = c.loop-e in
    let w = c.args.machine.linked in
    let h = inside (goal.at.loop-e-preserved c).In-loop-e in
    rw c.next_edge-e.ensures (
      next_leaves w _ l.e h (l.invariant.0 h),
      extended_more _ l.invariant.1 c.offer_edge-progress.ensures.extended,
      λ ns g ρ room x y q.
          next_along w _ x _ _ l.e h (l.invariant.0 h) (l.invariant.2 ns g ρ room x y q)
          (c.offer_edge-progress.ensures.offers ns g ρ room x y (l.invariant.1.room ∙ q) (omega (arith, h, x.edges)) told (ap is_guard_node told ∙ plain)),
      λ low. next_is_followed w _ _ l.e h (l.invariant.3 low) plain,
    )

pub returns : goal.returns
returns c =
    let l = c.loop-e in
    record { extended = l.invariant.1; offers = λ ns g ρ room x y q. all_along c.args.machine.linked _ x _ _ l.e (omega (arith, c.loop-e-test.false, c.edge_count-count.ensures)) (l.invariant.2 ns g ρ room x y q) }
