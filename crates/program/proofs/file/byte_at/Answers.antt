-- `program::file::byte_at` meets its contract.
use native.Mathlib.Omega.{arith}
use Rattle.std.proofs.lemmas.Grind.{common_steps}
use Rattle.program.specs.File.{byte_at}
use Rattle.program.proofs.file.byte_at.Goals as goal

pub returns : goal.returns
unfolding byte_at
returns c = grind (arith, common_steps)
