-- The cycle of calls {`Machine::exit`}: a part is lower than what it is a part of, so the measure is `bound`.
use Rattle.semantics.proofs.evaluator.Machine.+exit.Given as goal

abbrev pub decreases-exit : goal.decreases-exit
decreases-exit l = l.bound
