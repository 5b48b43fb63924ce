-- `program::drawing::put_bytes`: the bytes of one edge after another.
use mathlib.Core.Path.{refl}
use native.Mathlib.Omega.{arith}
use Rattle.program.specs.Drawing.{over}
use Rattle.program.specs.Parts.DrawingParts.{rows_in}
use Rattle.program.proofs.Drawings.{rows_next}
use Rattle.program.proofs.drawing.put_bytes.Goals as goal

pub loop-e-init : goal.loop-e-init
unfolding over rows_in
loop-e-init c = refl

pub loop-e-preserved : goal.loop-e-preserved
loop-e-preserved c =
    let l = c.loop-e in
    let a = c.args in
    let count = c.edge_count-count.ensures in
    rows_next a.graph.now a.buffer.now l.e (omega arith) l.invariant
    c.edge_word-source.ensures c.edge_word-target.ensures c.edge_word.ensures c.edge_word-entry.ensures
    c.put_edge.ensures
