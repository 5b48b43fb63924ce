-- The cycle of calls {`Machine::exit_truths`}: a part is lower than what it is a part of, so the measure is `bound`.
use Rattle.analysis.proofs.evaluator.Machine.+exit_truths.Given as goal

abbrev pub decreases-exit_truths : goal.decreases-exit_truths
decreases-exit_truths l = l.bound
