-- The two parts of a fit input are short.
use Rattle.std.specs.Prelude.{Ok}
use mathlib.Core.Path.{◌≡◌}
use mathlib.Core.List.{List}
use Prim.Native.Nat.{ℕ, ◌≤◌}
use native.Mathlib.Nat.{mul-le-mul}
use native.Mathlib.Omega.{arith}
use lib.ListN.{length}
use Rattle.program.specs.Questions.{input_validity, program_part, initial_part}
use Rattle.program.proofs.Laws.{counts, few_bytes, program_fit, initial_records, initial_few}

module _ (s : List ℕ) (fit : input_validity s ≡ Ok tt) {part : List ℕ} where
  pub program_short : part ≡ program_part s → length part ≤ 7244
  program_short e = rw e (few_bytes (program_part s) (program_fit s fit))

  pub initial_short : part ≡ initial_part s → length part ≤ 16384
  initial_short e =
      rw e (omega (arith, initial_records s fit, mul-le-mul (initial_few s fit) (counts (program_part s) (program_fit s fit)).names))
