-- `reader::field_head`: the three calls in turn are the definition.
use Rattle.program.specs.File.{field_head}
use Rattle.program.proofs.reader.field_head.Goals as goal

pub returns : goal.returns
unfolding field_head
returns c = cc
