-- `lines::put_record_of`: the record's node and signs, read from the list.
use mathlib.Core.Path.{◌≡◌}
use native.Mathlib.Omega.{arith}
use Rattle.analysis.specs.Sheet.{record_line}
use Rattle.listing.specs.Parts.Writing.{line_at}
use Rattle.listing.proofs.lines.put_record_of.Goals as goal
use Rattle.listing.proofs.lines.put_record_of.Goals.{After-word_at}

pub overflow_add-from : goal.overflow_add-from
overflow_add-from c = record { fits = omega (arith, c.bytes_of-from.ensures.1) }

-- the line that is handed on
told : (c : After-word_at) → (record_line c.args.k c.word_at.result c.part-signs.result.now ≡ line_at c.args.names c.args.list.now c.args.k)
unfolding line_at
told c = rw (c.word_at.ensures, c.part-signs.ensures, c.bytes_of-from.ensures.0)

pub put_record-requires : goal.put_record-requires
put_record-requires c = rw (told (goal.at.put_record-requires c).After-word_at) c.requires

pub returns : goal.returns
returns c = rw (told (goal.at.returns c).After-word_at) at c.put_record.ensures
