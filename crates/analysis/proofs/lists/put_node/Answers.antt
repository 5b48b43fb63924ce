-- `lists::put_node`: the copied part is the node's two bytes.
use Rattle.std.proofs.Common.{◌≡◌, ◌+◌, ◌-◌, arith}
use Rattle.program.specs.Graph.{word_bytes}
use Rattle.program.specs.Drawing.{over}
use Rattle.program.specs.Parts.DrawingParts.{over_at}
use Rattle.analysis.proofs.lists.put_node.Goals as goal

pub returns : goal.returns
unfolding word_bytes over over_at
returns c =
    let a = c.args in
    let e : a.at + 2 - a.at ≡ 2 = omega arith in
    rw (e, c.copy_from_slice.ensures.after, c.to_be_bytes.ensures)
