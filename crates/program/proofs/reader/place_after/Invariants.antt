-- `program::reader::place_after` meets its contract.
use mathlib.Core.Path.{◌≡◌}
use Rattle.program.specs.File.{place_after}
use Rattle.program.proofs.reader.place_after.Given as goal

abbrev pub invariant-loop : goal.invariant-loop
invariant-loop l = l.place ≡ place_after l.s l.at l.counter
