-- `program::file::word_at` meets its contract.
use mathlib.Core.Path.{sym}
use native.Mathlib.Omega.{arith}
use Rattle.program.specs.File.{word_at}
use Rattle.program.proofs.Reading.{word_past}
use Rattle.program.proofs.file.word_at.Goals as goal

pub returns-then-i-s : goal.returns-then-i-s
unfolding word_at
returns-then-i-s c = omega (arith, c.from_be_bytes.ensures, c.byte_at.ensures, c.byte_at-then-i-s.ensures)

pub returns-else-i-s : goal.returns-else-i-s
returns-else-i-s c = sym (word_past _ _ c.if-i-s.false)
