-- `Lookup::first_picked`: the links are followed up to the first edge that is picked, or at which 42 is handed over.
use Rattle.std.proofs.Common.{◌≡◌, ◌<◌, Bool, get_or, sym, ◌∙◌, arith}
use Rattle.program.specs.Parts.Prepared.{edge_count_place, action_in}
use Rattle.program.proofs.Laws.{first_is_followed, next_is_followed, next_is_beyond}
use Rattle.analysis.specs.Parts.Judging.{handed_over}
use Rattle.analysis.proofs.Searching.{picked_here, none_picked, handed_here}
use Rattle.analysis.proofs.judging.Lookup.first_picked.Goals as goal
use Rattle.analysis.proofs.judging.Lookup.first_picked.Goals.{After-handed_over, In-loop-e}

pub loop-e-init : goal.loop-e-init
loop-e-init c h = let linked = c.args.machine.linked in rw c.first_edge-e.ensures (first_is_followed linked _ _ h, first_is_followed linked _ _ h)

-- the edge that is looked at exists
there : (c : In-loop-e) → c.loop-e.e < get_or c.args.machine.graph.now edge_count_place 0
there c = omega (arith, c.loop-e-test.true, c.edge_count-count.ensures)

-- whether the query is handed over at it
handed : (c : After-handed_over) {b : Bool} → c.handed_over.result ≡ b
    → handed_over c.args.query (action_in c.args.machine.graph.now c.loop-e.e) ≡ b
handed c t = sym c.handed_over.ensures ∙ t

pub returns-then-handed_over : goal.returns-then-handed_over
returns-then-handed_over c ns g ρ e x y h =
    handed_here _ x y (c.loop-e.invariant h).1 (there (goal.at.returns-then-handed_over c).In-loop-e) (handed (goal.at.returns-then-handed_over c).After-handed_over c.if-handed_over.true) (λ x y o. c.first_missing.ensures ns g ρ _ e x y o)

pub returns-then-picked : goal.returns-then-picked
returns-then-picked c ns g ρ e x y h =
    sym
    (picked_here _ _ _ _ _ _ _ _ c.loop-e.e (c.loop-e.invariant h).0 ns g ρ e x y (there (goal.at.returns-then-picked c).In-loop-e)
    (sym (c.picked.ensures ns g ρ e x y (omega (arith, there (goal.at.returns-then-picked c).In-loop-e, x.prepared.edges)) (handed (goal.at.returns-then-picked c).After-handed_over c.if-handed_over.false)) ∙ c.if-picked.true))

pub loop-e-smaller : goal.loop-e-smaller
loop-e-smaller c =
    let more = next_is_beyond c.args.machine.linked c.loop-e.e (there (goal.at.loop-e-smaller c).In-loop-e) in
    omega (arith, c.next_edge-e.ensures, c.loop-e-test.true)

pub loop-e-preserved : goal.loop-e-preserved
loop-e-preserved c h =
    let linked = c.args.machine.linked in
    let here = c.loop-e.invariant h in
    let plain = handed (goal.at.loop-e-preserved c).After-handed_over c.if-handed_over.false in
    rw c.next_edge-e.ensures (
      next_is_followed linked _ _ c.loop-e.e (there (goal.at.loop-e-preserved c).In-loop-e) here.0
          (λ ns g ρ e x y. sym (c.picked.ensures ns g ρ e x y (omega (arith, there (goal.at.loop-e-preserved c).In-loop-e, x.prepared.edges)) plain) ∙ c.if-picked.false),
      next_is_followed linked _ _ c.loop-e.e (there (goal.at.loop-e-preserved c).In-loop-e) here.1 plain,
    )

pub returns : goal.returns
returns c ns g ρ e x y h =
    sym (none_picked _ _ _ _ _ _ _ _ c.loop-e.e (c.loop-e.invariant h).0 ns g ρ e x y (omega (arith, c.loop-e-test.false, c.edge_count-count.ensures)))
