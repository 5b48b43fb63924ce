-- `solver::offer_guard`: the abstract memory as it is, where the guard may hold.
use Rattle.std.proofs.Common.{sym, ◌∙◌}
use Rattle.analysis.proofs.Alike.{as_few}
use Rattle.analysis.proofs.Descending.{own_offered}
use Rattle.analysis.proofs.solver.offer_guard.Goals as goal

pub offer_results-requires : goal.offer_results-requires
offer_results-requires c =
    (rw c.requires.1 c.requires.0, rw c.unchanged-found.ensures (as_few c.args.holds))

pub returns : goal.returns
returns c =
    record {
      extended = rw c.requires.1 at c.offer_results.ensures.extended;
      offers = λ ns g ρ room x y q h.
          let e = sym (c.requires.1 ∙ x.coded.count) in
          own_offered x c.args.e h y room c.args.holds c.unchanged-found.ensures c.edge_target-node.ensures _
          (rw c.requires.1 at (c.offer_results.ensures.offers ns ρ room e (rw e at y) q));
    }
