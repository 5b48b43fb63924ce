-- `program::file::size_at` meets its contract.
use Rattle.program.specs.File.{size_at, name_offset}
use Rattle.program.proofs.file.size_at.Goals as goal

pub returns : goal.returns
unfolding size_at name_offset
returns c = cc
