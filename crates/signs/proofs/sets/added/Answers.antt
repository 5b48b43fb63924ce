-- `sets::added` is the union with the set of one sign.
use mathlib.Core.Path.{ap, ◌∙◌}
use Rattle.signs.specs.Sign.{unite, added}
use Rattle.signs.proofs.sets.added.Goals as goal

pub returns : goal.returns
unfolding added
returns c = c.unite.ensures ∙ ap (unite c.args.set) c.single.ensures
