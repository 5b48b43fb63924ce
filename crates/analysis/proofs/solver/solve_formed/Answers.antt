-- `solver::solve_formed`: the start records, then down the list, and its reply.
use Rattle.std.proofs.Common.{◌≤◌, sym, ap, ◌∙◌, arith}
use Rattle.analysis.specs.declared.solver.Progress.{Progress}
use Rattle.analysis.proofs.Answering.{growing_none, solution_found, room_of_lem, answered_found}
use Rattle.analysis.proofs.Growing.{extended_more}
use Rattle.analysis.proofs.Judged.{ready_names}
use Rattle.analysis.proofs.solver.solve_formed.Goals as goal
use Rattle.analysis.proofs.solver.solve_formed.Goals.{After-name_count-names}

few : (c : After-name_count-names) → c.name_count-names.result ≤ 32
few c = omega (arith, c.name_count-names.ensures, (ready_names c.requires).1)

pub offer_initial-first-requires : goal.offer_initial-first-requires
offer_initial-first-requires c =
    (rw c.nothing_in-none.ensures (growing_none c.args.buffer.now (few (goal.at.offer_initial-first-requires c).After-name_count-names) _ c.put_factors.ensures), omega (arith, c.name_count-names.ensures, (ready_names c.requires).0))

pub descend-requires : goal.descend-requires
descend-requires c =
    rw c.name_count-names.ensures at c.offer_initial-first.ensures.extended.growing

pub replied-requires : goal.replied-requires
replied-requires c = let x = c.descend.ensures.extended.growing in omega (arith, x.few, x.most)

pub returns : goal.returns
returns c ns g x =
    let e = c.name_count-names.ensures in
    let first = c.offer_initial-first.ensures in
    let q = ap (λ (p : Progress). p.room) c.nothing_in-none.ensures ∙ room_of_lem x.coded c.args.buffer.now e in
    answered_found _ _ _ (extended_more _ (rw e at first.extended) c.descend.ensures.extended)
    (solution_found ns g _ _ _ _ c.nothing_in-none.result (ap (λ (p : Progress). p.count) c.nothing_in-none.ensures) (ap (λ (p : Progress). p.full) c.nothing_in-none.ensures)
    (rw e at (first.offers ns _ (sym (e ∙ x.coded.count)) q)) (c.descend.ensures.offers ns g _ x (first.extended.room ∙ q)))
    c.replied.ensures

pub nothing_in-none-requires : goal.nothing_in-none-requires
nothing_in-none-requires c =
    few (goal.at.nothing_in-none-requires c).After-name_count-names
