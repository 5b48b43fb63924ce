-- `program::drawing::put_edge` meets its contract.
use mathlib.Core.List.{[], ◌∷◌}
use mathlib.Core.Path.{refl}
use native.Mathlib.Omega.{arith}
use Rattle.program.specs.Parts.DrawingParts.{edge_row}
use Rattle.program.specs.Graph.{word_bytes}
use Rattle.program.proofs.Overlaid.{over_one, over_then}
use Rattle.program.proofs.drawing.put_edge.Goals as goal

pub returns : goal.returns
unfolding edge_row word_bytes
returns c =
    let a = c.args in
    let buffer = a.buffer.now in
    let two = over_then buffer a.at (word_bytes a.source) (word_bytes a.target) (omega arith) c.put_word.ensures refl c.put_word-2.ensures in
    let three = over_then buffer a.at _ (a.kind ∷ []) (omega arith) two refl (over_one _ _ _ (omega arith)) in
    over_then buffer a.at _ (word_bytes a.entry) (omega arith) three refl c.put_word-3.ensures
