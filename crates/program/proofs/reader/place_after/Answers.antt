-- `program::reader::place_after` meets its contract.
use mathlib.Core.Path.{refl, ap, ◌∙◌}
use native.Mathlib.Numerals.{add-one}
use Rattle.program.specs.File.{head_at, after_head, place_after}
use Rattle.program.proofs.reader.place_after.Goals as goal

pub loop-init : goal.loop-init
unfolding place_after
loop-init c = refl

pub loop-preserved : goal.loop-preserved
unfolding place_after
loop-preserved c = rw add-one (c.after-place.ensures ∙ ap after_head (c.head_at.ensures ∙ ap (head_at c.args.s.now) c.loop.invariant))
