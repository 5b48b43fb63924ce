-- `splitting::split_by`: one law for each doubled width, from the largest to the width itself.
use Rattle.analysis.proofs.Doubling.{Off}
use Rattle.analysis.proofs.splitting.split_by.Given as goal

abbrev pub invariant-loop-k : goal.invariant-loop-k
invariant-loop-k l = Off l.width l.place l.k l.record l.rest
