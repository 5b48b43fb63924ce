-- `program::prepared::graphing::draw_edge` meets its contract.
use native.Mathlib.Omega.{arith}
use Rattle.program.specs.Parts.GraphingParts.{edge_strip}
use Rattle.program.proofs.prepared.graphing.draw_edge.Goals as goal

pub returns : goal.returns
unfolding edge_strip
returns c =
    record {
      size = omega arith;
      written = c.put_edge.ensures;
      fresh = omega arith;
      next = omega arith;
    }
