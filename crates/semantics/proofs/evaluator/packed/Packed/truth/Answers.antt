-- `Packed::truth`: the two numbers compute.
use Rattle.semantics.proofs.Coded.{truth_packed}
use Rattle.semantics.proofs.evaluator.packed.Packed.truth.Goals as goal

pub invariant_of-result : goal.invariant_of-result
invariant_of-result c = (truth_packed c.args.b c.from.result c.from.ensures).0

pub returns : goal.returns
returns c = (truth_packed c.args.b c.from.result c.from.ensures).1
