-- A memory in an array of 1024 cells, for the length of a call: its own cells in front, of which a well-formed program has at most 512, and the program's
-- numbers behind, from cell 512 on.
use Rattle.std.specs.Prelude.{◌≡◌, ℕ, ◌+◌, ◌<◌, ◌≤◌, List, ℤ, length, get_or}
use Rattle.signs.specs.Lists.{tabulate}
use Rattle.program.specs.Parts.Prepared.{expressions_most, cells_most, number_place, arithmetic_count_place, number_in, Coded}
use Rattle.semantics.specs.Expression.{cell_value}

-- the cells of that array
abbrev pub array_cells : ℕ
array_cells = 1024

-- the first n cells of a memory, with zeros after its last
unfoldable pub front : ℕ → List ℤ → List ℤ
front n m = tabulate n (cell_value m)

-- cells from 512 on that are the numbers of a code
pub record NumbersIn (code : List ℕ) (m : List ℤ) : Type 0 where
  pub number : (n : ℕ) → n < expressions_most → cell_value m (number_place + n) ≡ number_in code n

-- a code of names with these sizes, and a memory with its numbers behind
pub record Loaded (ns code : List ℕ) (m : List ℤ) : Type 0 where
  pub coded : Coded ns code
  pub numbers : NumbersIn code m

-- a list of 1024 cells: a memory's first 512, and zeros
pub record Fronted (m cells : List ℤ) : Type 0 where
  pub room : length cells ≡ array_cells
  pub same : (k : ℕ) → cell_value cells k ≡ cell_value (front cells_most m) k

-- the numbers of a code's arithmetic entries put into cells, from cell 512 on, and the others as they were
pub record Numbered (code : List ℕ) (before cells : List ℤ) : Type 0 where
  pub room : length cells ≡ length before
  pub others : (k : ℕ) → k < cells_most → cell_value cells k ≡ cell_value before k
  pub number : (n : ℕ) → n < get_or code arithmetic_count_place 0 → n < expressions_most → cell_value cells (number_place + n) ≡ number_in code n
  pub past : (n : ℕ) → get_or code arithmetic_count_place 0 ≤ n → cell_value cells (number_place + n) ≡ cell_value before (number_place + n)

-- a memory's first 512 cells, and all numbers of a code
pub record Placed (code : List ℕ) (m cells : List ℤ) : Type 0 where
  pub room : length cells ≡ array_cells
  pub same : (k : ℕ) → k < cells_most → cell_value cells k ≡ cell_value m k
  pub numbers : NumbersIn code cells
