-- `program::prepared::graphing::put_edge`: four stores, one after the other.
use mathlib.Core.List.{[], ◌∷◌}
use native.Mathlib.Numerals.{add-one, add-two, add-three}
use Rattle.program.proofs.Overlaid.{over_sets}
use Rattle.program.proofs.prepared.graphing.put_edge.Goals as goal

pub returns : goal.returns
returns c = rw (add-one, add-two, add-three) (over_sets (c.args.source ∷ c.args.target ∷ c.args.kind ∷ c.args.entry ∷ []) c.args.words.now c.args.at c.requires)
