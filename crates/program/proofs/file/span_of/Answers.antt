-- `program::file::span_of` meets its contract.
use Rattle.program.specs.File.{span_of}
use Rattle.program.proofs.file.span_of.Goals as goal

pub returns-in-Arithmetic : goal.returns-in-Arithmetic
unfolding span_of
returns-in-Arithmetic c = rw c.in-Arithmetic.is

pub returns-in-Boolean : goal.returns-in-Boolean
unfolding span_of
returns-in-Boolean c = rw c.in-Boolean.is

pub returns-in-Commands : goal.returns-in-Commands
unfolding span_of
returns-in-Commands c = rw c.in-Commands.is
