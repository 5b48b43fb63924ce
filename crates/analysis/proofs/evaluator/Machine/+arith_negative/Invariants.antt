-- The cycle of calls {`Machine::arith_negative`}: a part is lower than what it is a part of, so the measure is `bound`.
use Rattle.analysis.proofs.evaluator.Machine.+arith_negative.Given as goal

abbrev pub decreases-arith_negative : goal.decreases-arith_negative
decreases-arith_negative l = l.bound
