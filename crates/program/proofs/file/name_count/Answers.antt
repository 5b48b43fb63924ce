-- `program::file::name_count` meets its contract.
use Rattle.program.specs.File.{name_count, layout_of}
use Rattle.program.proofs.Reading.{names_wide}
use Rattle.program.proofs.file.name_count.Goals as goal

pub head_span-names-requires : goal.head_span-names-requires
head_span-names-requires c = names_wide c.names_field.ensures

pub returns : goal.returns
unfolding name_count layout_of
returns c = cc
