-- `lists::whole`: by both tests.
use Rattle.std.proofs.Common.{eq-eqb, ne_eqb}
use Rattle.analysis.specs.Records.{record_count, whole_records}
use Rattle.analysis.proofs.lists.whole.Goals as goal

pub returns-then-bytes-width-eq0 : goal.returns-then-bytes-width-eq0
unfolding whole_records record_count
returns-then-bytes-width-eq0 c = simp (eq-eqb _ _ c.if-bytes-width-eq0.true)

pub returns-else-bytes-width-eq0 : goal.returns-else-bytes-width-eq0
unfolding whole_records record_count
returns-else-bytes-width-eq0 c = simp (ne_eqb _ _ c.if-bytes-width-eq0.false)
