-- `program::prepared::coding::put_entry` meets its contract.
use Rattle.program.specs.File.{byte_at}
use Rattle.program.proofs.prepared.coding.put_entry.Goals as goal

pub returns : goal.returns
unfolding byte_at
returns c = rw (c.from.ensures, c.whole_word.ensures, c.whole_word-2.ensures, c.whole_word-3.ensures)
