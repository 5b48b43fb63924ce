-- `solver::offer_edge`: the edge's results, offered at its target.
use Rattle.std.proofs.Common.{sym, ◌∙◌}
use Rattle.analysis.proofs.Descending.{edge_offered}
use Rattle.analysis.proofs.solver.offer_edge.Goals as goal

pub offer_results-requires : goal.offer_results-requires
offer_results-requires c =
    rw c.requires.1 (c.requires.0, c.results-found.ensures.few)

pub returns : goal.returns
returns c =
    record {
      extended = rw c.requires.1 at c.offer_results.ensures.extended;
      offers = λ ns g ρ room x y q h told plainly.
          let e = sym (c.requires.1 ∙ x.coded.count) in
          edge_offered x c.args.e h told plainly ρ _ y _ c.results-found.ensures room _
          (rw (c.requires.1, c.edge_target-node.ensures) at (c.offer_results.ensures.offers ns ρ room e (rw e at y) q));
    }
