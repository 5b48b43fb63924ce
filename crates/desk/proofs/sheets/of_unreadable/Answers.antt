-- `sheets::of_unreadable`: by its cases.
use Rattle.desk.specs.Parts.Heads.{unreadable_head}
use Rattle.desk.proofs.sheets.of_unreadable.Goals as goal

pub overflow_cast-result : goal.overflow_cast-result
overflow_cast-result c = record { fits = c.requires.refused _ c.in-Refused.is }

pub of_wrong_byte-requires : goal.of_wrong_byte-requires
of_wrong_byte-requires c = c.requires.malformed _ c.in-Malformed.is

pub returns-in-Refused : goal.returns-in-Refused
unfolding unreadable_head
returns-in-Refused c = rw c.in-Refused.is

pub returns-in-Malformed : goal.returns-in-Malformed
unfolding unreadable_head
returns-in-Malformed c = rw c.in-Malformed.is c.of_wrong_byte.ensures
