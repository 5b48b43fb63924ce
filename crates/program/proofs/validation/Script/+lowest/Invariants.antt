-- The cycle of calls {`program::validation::Script::lowest`}: a part is lower than what it is a part of, so the measure is `bound`.
use Rattle.program.proofs.validation.Script.+lowest.Given as goal

abbrev pub decreases-lowest : goal.decreases-lowest
decreases-lowest l = l.bound
