-- `program::reader::head_at` meets its contract.
use borrow.Author.Rules.{rules}
use mathlib.Core.Path.{sym}
use Rattle.program.specs.File.{head_found}
use Rattle.program.proofs.Reading.{head_there, head_short}
use Rattle.program.proofs.reader.head_at.Goals as goal

pub returns-then-s-at : goal.returns-then-s-at
returns-then-s-at c = sym (head_short _ _ (search rules))

pub returns-then-s-at-lt3 : goal.returns-then-s-at-lt3
returns-then-s-at-lt3 c = sym (head_short _ _ (search rules))

pub returns : goal.returns
unfolding head_found
returns c =
    let args = c.args in
    rw (head_there args.s.now args.at (search rules), c.byte_at.ensures, c.word_at-length.ensures)
