-- `Machine::copied_effect`: the edge's action, in the copied memory.
use Rattle.semantics.proofs.Edges.{edge_found}
use Rattle.semantics.proofs.evaluator.Machine.copied_effect.Goals as goal

pub returns : goal.returns
returns c ns g p h =
    edge_found p c.args.edge h (c.copy_in.ensures ns p.coded) c.edge_effect.ensures
