-- `class::ask_each`: every mark passed over is in the range.
use Rattle.std.specs.Prelude.{Ok}
use mathlib.Core.Path.{◌≡◌}
use Rattle.program.specs.Asking.{ask_each}
use Rattle.figures.specs.Figures.{mark_validity}
use Rattle.figures.proofs.class.ask_each.Given as goal

abbrev pub invariant-loop-i : goal.invariant-loop-i
invariant-loop-i l = ask_each l.i (mark_validity l.marks) ≡ Ok tt
