-- `program::validation::Script::check_table` meets its contract.
use Rattle.std.specs.Prelude.{Ok}
use mathlib.Core.Path.{◌≡◌}
use Rattle.program.specs.Asking.{ask_each}
use Rattle.program.specs.Parts.Counting.{Counted}
use Rattle.program.specs.Parts.Jumping.{NotedTo}
use Rattle.program.specs.Questions.{entry_validity, table_uses}
use Rattle.program.proofs.validation.Script.check_table.Given as goal

abbrev pub invariant-loop-n : goal.invariant-loop-n
invariant-loop-n l =
    (ask_each l.n (entry_validity l.self.bytes.now l.table) ≡ Ok tt) × Counted l.initial.uses l.uses (λ u k. table_uses l.self.bytes.now u k l.table l.n) × NotedTo l.self.bytes.now l.table l.n l.initial.jumps l.jumps
