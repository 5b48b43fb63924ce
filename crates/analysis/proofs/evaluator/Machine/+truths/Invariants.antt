-- The cycle of calls {`Machine::truths`}: a part is lower than what it is a part of, so the measure is `bound`.
use Rattle.analysis.proofs.evaluator.Machine.+truths.Given as goal

abbrev pub decreases-truths : goal.decreases-truths
decreases-truths l = l.bound
