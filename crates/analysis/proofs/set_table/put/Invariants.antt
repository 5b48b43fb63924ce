-- `set_table::put`: set by set.
use Rattle.std.proofs.Common.{◌≡◌, ℕ, ◌<◌, get_or}
use Rattle.signs.specs.Grid.{set_table}
use Rattle.analysis.proofs.set_table.put.Given as goal

abbrev pub invariant-loop-k : goal.invariant-loop-k
invariant-loop-k l = (i : ℕ) → i < l.k → get_or l.place-items i 0 ≡ get_or set_table i 0
