-- How the uses of entries are counted: one slot for each entry of the three tables, in which two uses count as many.
use Rattle.std.specs.Prelude.{ℕ, ◌+◌, ◌<◌, ◌≤◌, min, List, ◌≡◌, length, get_or}
use Rattle.program.specs.File.{table_field}
use Rattle.program.specs.Questions.{uses}
use Rattle.program.specs.declared.Table.{Table}
use Rattle.program.specs.declared.Table.TheVariants.{Arithmetic, Boolean, Commands}

-- the most entries that a table has
unfoldable pub capacity : Table → ℕ
capacity t = (table_field t).most

-- the slot of entry n of a table
unfoldable pub slot : Table → ℕ → ℕ
slot Arithmetic n = n
slot Boolean n = 512 + n
slot Commands n = 768 + n

-- `after` has what `before` has and f's count of each entry more, two at most
pub record Counted (before after : List ℕ) (f : Table → ℕ → ℕ) : Type 0 where
  pub same_length : length after ≡ length before
  pub counts : (u : Table) (n : ℕ) → n < capacity u → get_or before (slot u n) 0 ≤ 2 → get_or after (slot u n) 0 ≡ min 2 (get_or before (slot u n) 0 + f u n)

-- the slots of a file whose uses are all counted
pub record UsesIn (s counts : List ℕ) : Type 0 where
  pub room : length counts ≡ 1024
  pub each : (u : Table) (n : ℕ) → n < capacity u → get_or counts (slot u n) 0 ≡ min 2 (uses s u n)
