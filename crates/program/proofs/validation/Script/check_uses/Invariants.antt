-- `program::validation::Script::check_uses` meets its contract.
use Rattle.std.specs.Prelude.{Ok}
use mathlib.Core.Path.{◌≡◌}
use Rattle.program.specs.Asking.{ask_each}
use Rattle.program.specs.Questions.{use_validity}
use Rattle.program.proofs.validation.Script.check_uses.Given as goal

abbrev pub invariant-loop-n : goal.invariant-loop-n
invariant-loop-n l =
    (ask_each l.n (use_validity l.self.bytes.now l.table) ≡ Ok tt)
