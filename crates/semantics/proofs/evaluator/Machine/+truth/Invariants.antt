-- The cycle of calls {`Machine::truth`}: a part is lower than what it is a part of, so the measure is `bound`.
use Rattle.semantics.proofs.evaluator.Machine.+truth.Given as goal

abbrev pub decreases-truth : goal.decreases-truth
decreases-truth l = l.bound
