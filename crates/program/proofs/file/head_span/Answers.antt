-- `program::file::head_span` meets its contract.
use Rattle.program.specs.File.{head_span}
use Rattle.program.proofs.file.head_span.Goals as goal

pub returns-in-Err : goal.returns-in-Err
unfolding head_span
returns-in-Err c = rw c.in-Err.is

pub returns-in-Ok : goal.returns-in-Ok
unfolding head_span
returns-in-Ok c = rw c.in-Ok.is
