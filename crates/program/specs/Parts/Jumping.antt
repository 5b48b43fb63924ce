-- What the functions that ask question 20 promise each other. No public contract cites these.
use Rattle.std.specs.Prelude.{◌≡◌, Bool, false, List, ℕ, ◌<◌, min, leb}
use Rattle.program.specs.File.{entry}
use Rattle.program.specs.Syntax.{Command, skip, assign, store, sequence, conditional, iteration, guarded, choice, jump}
use Rattle.program.specs.declared.Table.{Table}
use Rattle.program.specs.declared.Table.TheVariants.{Arithmetic, Boolean, Commands}

-- whether an entry may be a jump: no kind is past theirs, where all are known
unfoldable pub may_jump : List ℕ → Table → ℕ → Bool
may_jump s Arithmetic n = false
may_jump s Boolean n = false
may_jump s Commands n = leb 8 (entry s Commands n).kind

-- whether one was met is noted in a flag: where it is clear none was, and nothing was noted before
pub record Noted (jump before after : Bool) : Type 0 where
  pub clear : after ≡ false → (before ≡ false) × (jump ≡ false)

-- the same of the first n entries of a table
pub record NotedTo (s : List ℕ) (t : Table) (n : ℕ) (before after : Bool) : Type 0 where
  pub clear : after ≡ false → (before ≡ false) × ((k : ℕ) → k < n → may_jump s t k ≡ false)

-- the lowest of a number and of the jumps outside every do in a command
unfoldable pub lowest : Command → ℕ → ℕ
lowest (skip k) found = found
lowest (assign k x a) found = found
lowest (store k x i a) found = found
lowest (sequence k c d) found = lowest d (lowest c found)
lowest (conditional k c) found = lowest c found
lowest (iteration k c) found = found
lowest (guarded k b c) found = lowest c found
lowest (choice k c d) found = lowest d (lowest c found)
lowest (jump k j) found = min k found
