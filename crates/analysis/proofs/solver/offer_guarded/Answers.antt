-- `solver::offer_guarded`: along the links up to the first guard that may not fail, what follows each edge passed was offered.
use Rattle.std.proofs.Common.{◌≡◌, ◌<◌, Bool, get_or, sym, ap, ◌∙◌, arith}
use borrow.Author.Tests.{not-true, not-false}
use Rattle.signs.specs.declared.Truths.{Truths}
use Rattle.program.specs.Parts.Prepared.{edge_count_place}
use Rattle.program.proofs.Laws.{next_is_beyond, next_is_followed}
use Rattle.analysis.specs.Signs.{truths_in}
use Rattle.analysis.proofs.Descending.{all_along, guarded_start, guarded_next, guarded_stop}
use Rattle.analysis.proofs.Growing.{extended_none, extended_more}
use Rattle.analysis.proofs.Tested.{own_at}
use Rattle.analysis.proofs.solver.offer_guarded.Goals as goal
use Rattle.analysis.proofs.solver.offer_guarded.Goals.{After-own_truths-t, In-loop-e}

pub loop-e-init : goal.loop-e-init
loop-e-init c = (
  extended_none _ _ _ _ c.requires.0,
  λ node o. record { here = λ h. o.here; before = λ k l d t. absurd (o.none k l t) },
  λ ns g ρ room node x y q o. guarded_start x y c.args.machine.linked o room _,
)

-- the edge is one of the graph's
inside : (c : In-loop-e) → c.loop-e.e < get_or c.args.machine.graph.now edge_count_place 0
inside c = omega (arith, c.loop-e-test.true, c.edge_count-count.ensures)

-- whether its own guard may fail
failing : (c : After-own_truths-t) {b : Bool} → c.own_truths-t.result.fails ≡ b
    → (truths_in c.args.memory.now.rho.now (own_at c.args.machine.code.now c.args.machine.graph.now c.loop-e.e)).fails ≡ b
failing c t = sym (ap (λ (v : Truths). v.fails) c.own_truths-t.ensures) ∙ t

pub returns-then-not-t : goal.returns-then-not-t
returns-then-not-t c =
    let l = c.loop-e in
    record {
      extended = extended_more _ l.invariant.0 c.offer_guard-progress.ensures.extended;
      offers = λ ns g ρ room node x y q n.
          guarded_stop x y c.args.machine.linked n room _ l.e (l.invariant.1 node n) (inside (goal.at.returns-then-not-t c).In-loop-e) (l.invariant.2 ns g ρ room node x y q n)
          (rw c.own_truths-t.ensures at (c.offer_guard-progress.ensures.offers ns g ρ room x y (l.invariant.0.room ∙ q) (omega (arith, inside (goal.at.returns-then-not-t c).In-loop-e, x.edges))))
          (failing (goal.at.returns-then-not-t c).After-own_truths-t (not-true _ c.if-not-t.true));
    }

pub loop-e-smaller : goal.loop-e-smaller
loop-e-smaller c =
    let more = next_is_beyond c.args.machine.linked c.loop-e.e (inside (goal.at.loop-e-smaller c).In-loop-e) in
    omega (arith, c.next_edge-e.ensures, inside (goal.at.loop-e-smaller c).In-loop-e)

pub loop-e-preserved : goal.loop-e-preserved
loop-e-preserved c =
    let l = c.loop-e in
    let w = c.args.machine.linked in
    rw c.next_edge-e.ensures (
      extended_more _ l.invariant.0 c.offer_guard-progress.ensures.extended,
      λ node n. next_is_followed w node _ l.e (inside (goal.at.loop-e-preserved c).In-loop-e) (l.invariant.1 node n) (failing (goal.at.loop-e-preserved c).After-own_truths-t (not-false _ c.if-not-t.false)),
      λ ns g ρ room node x y q n.
          guarded_next x y w n room _ l.e (l.invariant.1 node n) (inside (goal.at.loop-e-preserved c).In-loop-e) (l.invariant.2 ns g ρ room node x y q n)
          (rw c.own_truths-t.ensures at (c.offer_guard-progress.ensures.offers ns g ρ room x y (l.invariant.0.room ∙ q) (omega (arith, inside (goal.at.loop-e-preserved c).In-loop-e, x.edges)))),
    )

pub returns : goal.returns
returns c =
    let l = c.loop-e in
    record { extended = l.invariant.0; offers = λ ns g ρ room node x y q o. all_along c.args.machine.linked _ x _ _ l.e (omega (arith, c.loop-e-test.false, c.edge_count-count.ensures)) (l.invariant.2 ns g ρ room node x y q o) }
