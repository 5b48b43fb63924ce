-- `program::drawing::put_word` meets its contract.
use mathlib.Core.Path.{◌∙◌}
use native.Mathlib.Omega.{arith}
use Rattle.program.specs.Graph.{word_bytes}
use Rattle.program.proofs.Overlaid.{over_part}
use Rattle.program.proofs.drawing.put_word.Goals as goal

pub returns : goal.returns
unfolding word_bytes
returns c = over_part _ _ _ _ _ (c.copy_from_slice.ensures.after ∙ c.to_be_bytes.ensures) (omega arith)
