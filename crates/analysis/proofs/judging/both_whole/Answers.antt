-- `judging::both_whole`: the start list, and then the solution.
use Rattle.std.proofs.Common.{sym, ◌∙◌}
use Rattle.analysis.proofs.judging.both_whole.Goals as goal

pub returns-then-whole : goal.returns-then-whole
returns-then-whole c = rw (sym c.whole.ensures ∙ c.if-whole.true) c.whole-then-whole.ensures

pub returns-else-whole : goal.returns-else-whole
returns-else-whole c = rw (sym c.whole.ensures ∙ c.if-whole.false) c.if-whole.false
