-- The cycle of calls {`Machine::boolean_negative`}: a part is lower than what it is a part of, so the measure is `bound`.
use Rattle.analysis.proofs.evaluator.Machine.+boolean_negative.Given as goal

abbrev pub decreases-boolean_negative : goal.decreases-boolean_negative
decreases-boolean_negative l = l.bound
