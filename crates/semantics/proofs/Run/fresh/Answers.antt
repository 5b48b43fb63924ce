-- `Run::fresh` meets its contract.
use mathlib.Core.Path.{refl}
use Rattle.semantics.specs.Step.{fresh}
use Rattle.semantics.proofs.Run.fresh.Goals as goal

pub returns : goal.returns
unfolding fresh
returns c = refl
