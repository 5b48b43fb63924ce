-- `stepping::leaves`: an edge that exists leaves the node that it comes from.
use mathlib.Core.Path.{ap, ◌∙◌}
use native.Mathlib.Omega.{arith}
use lib.Dec.{eqb}
use Prim.Native.Nat.{ℕ}
use Rattle.semantics.proofs.Edges.{no_edge, edge_leaves}
use Rattle.semantics.proofs.stepping.leaves.Goals as goal

pub returns-then-edge_count-edge : goal.returns-then-edge_count-edge
returns-then-edge_count-edge c ns code g p = let a = c.args in no_edge p a.edge a.node (omega (arith, c.edge_count.ensures, c.if-edge_count-edge.true))

pub returns : goal.returns
returns c ns code g p =
    let a = c.args in
    ap (λ (s : ℕ). eqb s a.node) c.edge_source.ensures ∙ edge_leaves p a.edge a.node (omega (arith, c.edge_count.ensures, c.if-edge_count-edge.false))
