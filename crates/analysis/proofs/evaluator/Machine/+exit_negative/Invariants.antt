-- The cycle of calls {`Machine::exit_negative`}: a part is lower than what it is a part of, so the measure is `bound`.
use Rattle.analysis.proofs.evaluator.Machine.+exit_negative.Given as goal

abbrev pub decreases-exit_negative : goal.decreases-exit_negative
decreases-exit_negative l = l.bound
