-- `program::drawing::edge_at` meets its contract.
use Rattle.program.specs.Drawing.{edge_read}
use Rattle.program.specs.File.{byte_at}
use Rattle.program.proofs.drawing.edge_at.Goals as goal

pub returns-then-at-bytes : goal.returns-then-at-bytes
unfolding edge_read byte_at
returns-then-at-bytes c =
    rw (c.whole_word.ensures, c.whole_word-then-at-bytes.ensures, c.whole_word-then-at-bytes-2.ensures)

pub returns : goal.returns
unfolding edge_read
returns c =
    rw (c.word_at.ensures, c.word_at-2.ensures, c.byte_at.ensures, c.word_at-3.ensures)
