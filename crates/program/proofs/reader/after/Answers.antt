-- `program::reader::after` meets its contract.
use Rattle.program.specs.File.{after_head}
use Rattle.program.proofs.reader.after.Goals as goal

pub returns-in-Err : goal.returns-in-Err
unfolding after_head
returns-in-Err c = rw c.in-Err.is

pub returns-in-Ok : goal.returns-in-Ok
unfolding after_head
returns-in-Ok c = rw c.in-Ok.is
