-- `Packed::fault`: the number of each reason computes.
use mathlib.Core.Path.{◌≡◌, ap, ◌∙◌}
use lib.IntN.{pos}
use Rattle.signs.specs.Number.{reason_number}
use Rattle.semantics.proofs.Coded.{fault_packed}
use Rattle.semantics.proofs.evaluator.packed.Packed.fault.Goals as goal
use Rattle.semantics.proofs.evaluator.packed.Packed.fault.Goals.{After-from}

same : (c : After-from) → c.from.result ≡ pos (reason_number c.args.reason)
same c = c.from.ensures ∙ ap pos c.number.ensures

pub invariant_of-result : goal.invariant_of-result
invariant_of-result c = (fault_packed c.args.reason c.from.result (same (goal.at.invariant_of-result c).After-from)).code

pub returns-clause-evaluated : goal.returns-clause-evaluated
returns-clause-evaluated c = (fault_packed c.args.reason c.from.result (same (goal.at.returns-clause-evaluated c).After-from)).evaluated

pub returns-clause-decided : goal.returns-clause-decided
returns-clause-decided c = (fault_packed c.args.reason c.from.result (same (goal.at.returns-clause-decided c).After-from)).decided
