-- `lists::memory_formed`: each byte passed is right.
use Rattle.std.specs.Prelude.{Ok}
use Rattle.std.proofs.Common.{◌≡◌}
use Rattle.program.specs.Asking.{ask_each}
use Rattle.analysis.proofs.Laid.{byte_asked}
use Rattle.analysis.proofs.lists.memory_formed.Given as goal

abbrev pub invariant-loop-i : goal.invariant-loop-i
invariant-loop-i l = ask_each l.i (byte_asked l.code l.bytes l.at) ≡ Ok tt
