-- `lists::initial_formed`: each record passed is well formed.
use Rattle.std.specs.Prelude.{Ok}
use Rattle.std.proofs.Common.{◌≡◌, ℕ, ◌*◌, List}
use Rattle.program.specs.Asking.{ask_each}
use Rattle.program.specs.Parts.Prepared.{Coded}
use Rattle.analysis.specs.Records.{memory_formed}
use Rattle.analysis.proofs.lists.initial_formed.Given as goal

abbrev pub invariant-loop-k : goal.invariant-loop-k
invariant-loop-k l = (ns : List ℕ) → Coded ns l.code → ask_each l.k (λ k. memory_formed ns l.bytes (l.names * k)) ≡ Ok tt
