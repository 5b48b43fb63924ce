-- `program::file::whole_word` meets its contract.
use native.Mathlib.Omega.{arith}
use Rattle.program.specs.File.{byte_at, word_at}
use Rattle.program.proofs.file.whole_word.Goals as goal

pub returns : goal.returns
unfolding word_at byte_at
returns c = omega (arith, c.from_be_bytes.ensures)
