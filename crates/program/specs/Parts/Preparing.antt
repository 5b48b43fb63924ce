-- What the functions that prepare a program promise each other. No public contract cites these.
use Rattle.std.specs.Prelude.{◌≡◌, List, ℕ, ◌+◌, ◌*◌, ◌%◌, ◌≤◌, ◌<◌, length, get_or}
use Rattle.program.specs.File.{name_count, sizes, entry_count, entry_at, entry, cell_count, first_cell}
use Rattle.program.specs.Graph as drawn
use Rattle.program.specs.Graph.{edge_at, edge_count, node_count, action_kind, action_entry}
use Rattle.program.specs.Parts.Prepared.{boolean_place, size_place, cell_place, name_count_place, code_length, node_count_place, edge_count_place, numbers_at, cell_in, arith_in, leaf_cell, edge_in, Coded}
use Rattle.program.specs.declared.Construction.{Construction}
use Rattle.program.specs.declared.Table.TheVariants.{Arithmetic, Boolean, Commands}

-- an array in which so many entries, those from a byte of a file on, were put from a place on, over what was there
pub record Copied (s : List ℕ) (start place count : ℕ) (old out : List ℕ) : Type 0 where
  pub size : length out ≡ length old
  pub copied : (n : ℕ) → n < count → numbers_at out (place + 4 * n) ≡ entry_at s (start + 7 * n)
  pub before : (i : ℕ) → i < place → get_or out i 0 ≡ get_or old i 0
  pub after : (i : ℕ) → place + 4 * count ≤ i → get_or out i 0 ≡ get_or old i 0

-- an array with the sizes and the first cells of k names of a file, over what was there: before the sizes nothing is changed
pub record NamesPut (s : List ℕ) (k : ℕ) (old code : List ℕ) : Type 0 where
  pub long : length code ≡ code_length
  pub size : (x : ℕ) → x < k → get_or code (size_place + x) 0 ≡ get_or (sizes s) x 0
  pub cell : (x : ℕ) → x < k → get_or code (cell_place + x) 0 ≡ first_cell (sizes s) x
  pub before : (i : ℕ) → i < size_place → get_or code i 0 ≡ get_or old i 0

-- one with those of all names, the number of all cells and that of the names
pub record NamesDone (s old code : List ℕ) : Type 0 where
  pub put : NamesPut s (name_count s) old code
  pub cells : get_or code (cell_place + 32) 0 ≡ cell_count (sizes s)
  pub count : get_or code name_count_place 0 ≡ name_count s

-- the fourth number of arithmetic entry n: its cell, where it is a leaf
unfoldable pub fourth_in : List ℕ → ℕ → ℕ
fourth_in code n = leaf_cell (cell_in code) n (arith_in code n)

-- an array in which the fourth numbers of the first k arithmetic entries were put
pub record CellsPut (k : ℕ) (old code : List ℕ) : Type 0 where
  pub long : length code ≡ code_length
  pub fourth : (n : ℕ) → n < k → get_or code (4 * n + 3) 0 ≡ fourth_in old n
  pub others : (i : ℕ) → i % 4 < 3 → get_or code i 0 ≡ get_or old i 0
  pub after : (i : ℕ) → 4 * k ≤ i → get_or code i 0 ≡ get_or old i 0

-- the code of a file: what is promised of it, and the entries of its expressions. The fourth number of an arithmetic entry is its cell and not the file's
pub record CodeIn (s code : List ℕ) : Type 0 where
  pub coded : Coded (sizes s) code
  pub kind : (n : ℕ) → n < entry_count s Arithmetic → get_or code (4 * n) 0 ≡ (entry s Arithmetic n).kind
  pub p : (n : ℕ) → n < entry_count s Arithmetic → get_or code (4 * n + 1) 0 ≡ (entry s Arithmetic n).p
  pub q : (n : ℕ) → n < entry_count s Arithmetic → get_or code (4 * n + 2) 0 ≡ (entry s Arithmetic n).q
  pub booleans : (n : ℕ) → n < entry_count s Boolean → numbers_at code (boolean_place + 4 * n) ≡ entry s Boolean n

-- edge e of a file's graph as four numbers
pub record EdgeWords (κ : Construction) (s graph : List ℕ) (e : ℕ) : Type 0 where
  pub source : edge_in graph e 0 ≡ (edge_at (drawn.graph κ s) e).source
  pub target : edge_in graph e 1 ≡ (edge_at (drawn.graph κ s) e).target
  pub kind : edge_in graph e 2 ≡ action_kind (edge_at (drawn.graph κ s) e).action
  pub entry : edge_in graph e 3 ≡ action_entry (edge_at (drawn.graph κ s) e).action

-- the graph of a file by a construction: its commands, its counts and its edges
pub record GraphIn (κ : Construction) (s graph : List ℕ) : Type 0 where
  pub commands : (n : ℕ) → n < entry_count s Commands → numbers_at graph (4 * n) ≡ entry s Commands n
  pub nodes : get_or graph node_count_place 0 ≡ node_count κ s
  pub edges : get_or graph edge_count_place 0 ≡ edge_count κ s
  pub edge : (e : ℕ) → e < edge_count κ s → EdgeWords κ s graph e
