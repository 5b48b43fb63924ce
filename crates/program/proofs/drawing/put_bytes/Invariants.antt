-- `program::drawing::put_bytes`: the bytes of one edge after another.
use mathlib.Core.Path.{◌≡◌}
use Rattle.program.specs.Drawing.{over}
use Rattle.program.specs.Parts.DrawingParts.{rows_in}
use Rattle.program.proofs.drawing.put_bytes.Given as goal

abbrev pub invariant-loop-e : goal.invariant-loop-e
invariant-loop-e l = l.buffer ≡ over (rows_in l.graph l.e) l.initial.buffer
