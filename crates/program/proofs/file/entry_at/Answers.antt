-- `program::file::entry_at` meets its contract.
use Rattle.program.specs.File.{entry_at, byte_at}
use Rattle.program.proofs.Reading.{entry_past}
use Rattle.program.proofs.file.entry_at.Goals as goal

pub returns-then-s-at-ge7 : goal.returns-then-s-at-ge7
unfolding entry_at byte_at
returns-then-s-at-ge7 c = rw (c.whole_word.ensures, c.whole_word-then-s-at-ge7.ensures, c.whole_word-then-s-at-ge7-2.ensures)

pub returns-else-s-at-ge7 : goal.returns-else-s-at-ge7
unfolding entry_at
returns-else-s-at-ge7 c = λ i. record { kind = c.byte_at.ensures i; p = c.word_at.ensures i; q = c.word_at-then-at-s.ensures i; r = c.word_at-then-at-s-2.ensures i }

pub returns-else-at-s : goal.returns-else-at-s
returns-else-at-s c = entry_past _ _ c.if-at-s.false c.default.ensures
