-- `judging::record_count`: at most 4,096, so it is two bytes.
use Rattle.std.proofs.Common.{refl, arith}
use Rattle.analysis.specs.Records.{record_count}
use Rattle.analysis.proofs.Judged.{few_records}
use Rattle.analysis.proofs.judging.record_count.Goals as goal

pub overflow_cast-result : goal.overflow_cast-result
unfolding record_count
overflow_cast-result c = record { fits = omega (arith, few_records _ _ c.requires.1) }

pub returns : goal.returns
unfolding record_count
returns c = refl
