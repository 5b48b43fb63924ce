-- `judging::judge`: the verdict on the construction where none is named.
use Rattle.analysis.proofs.judging.judge.Goals as goal

pub returns : goal.returns
returns c = rw c.unnamed.ensures at c.judge_on.ensures
