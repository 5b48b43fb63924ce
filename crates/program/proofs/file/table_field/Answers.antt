-- `program::file::table_field` meets its contract.
use Rattle.program.specs.File.{table_field}
use Rattle.program.proofs.file.table_field.Goals as goal

pub returns-in-Arithmetic : goal.returns-in-Arithmetic
unfolding table_field
returns-in-Arithmetic c = rw c.in-Arithmetic.is

pub returns-in-Boolean : goal.returns-in-Boolean
unfolding table_field
returns-in-Boolean c = rw c.in-Boolean.is

pub returns-in-Commands : goal.returns-in-Commands
unfolding table_field
returns-in-Commands c = rw c.in-Commands.is
