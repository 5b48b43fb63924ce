-- Laws of the sizes of names and of their cells.
use mathlib.Core.Path.{◌≡◌, refl, sym, ◌∙◌, ap}
use mathlib.Core.List.{List, [], ◌∷◌, ◌++◌, sum}
use Prim.Native.Nat.{ℕ, zero, suc, ◌+◌, ◌≤◌, ◌<◌, min}
use native.Mathlib.Decide.{ℕ_discrete, dec_le}
use native.Mathlib.Nat.{le_refl}
use native.Mathlib.Omega.{arith}
use mathlib.Core.Bool.{false}
use lib.Dec.{eqb, ltb}
use lib.ListN.{length, get_or, take}
use borrow.Author.Tests.{ne_eqb, lt-ltb, le-ltb}
use lib.Seq.{take-suc, take_all}
use Rattle.program.specs.File.{name_count, size_at, sizes, is_variable, is_array, cells_of, cell_count, first_cell}
use Rattle.program.proofs.Lists.{length_tabulate, get_or_tabulate}

-- a size has a cell at least
pub some_cell : (size : ℕ) → 1 ≤ cells_of size
unfolding cells_of
some_cell zero = omega arith
some_cell (suc n) = rw (ne_eqb (suc n) 0 (omega arith)) (omega arith)

cells_snoc : (ns : List ℕ) (x : ℕ) → cell_count (ns ++ (x ∷ [])) ≡ cell_count ns + cells_of x
unfolding cell_count sum
cells_snoc [] x = omega arith
cells_snoc (n ∷ ns) x = omega (arith, cells_snoc ns x)

module _ (ns : List ℕ) where
  -- before the first name there is no cell, before the next a name's own cells more, and past the last name all
  pub first_cell_zero : first_cell ns 0 ≡ 0
  unfolding first_cell cell_count sum
  first_cell_zero = refl

  pub first_cell_next : (i : ℕ) → i < length ns → first_cell ns (suc i) ≡ first_cell ns i + cells_of (get_or ns i 0)
  unfolding first_cell
  first_cell_next i h = rw (take-suc ns i 0) (cells_snoc (take i ns) (get_or ns i 0))

  pub first_cell_end : (i : ℕ) → length ns ≤ i → first_cell ns i ≡ cell_count ns
  unfolding first_cell
  first_cell_end i h = ap cell_count (take_all i ns h)

  -- the cells of a name lie before those of a later one, and inside the memory
  pub cells_apart : (x y : ℕ) → x < y → y ≤ length ns → first_cell ns x + cells_of (get_or ns x 0) ≤ first_cell ns y
  cells_apart x zero h l = absurd (omega arith)
  cells_apart x (suc y) h l =
      let next = first_cell_next y l in
      elim (ℕ_discrete x y) [
        | yes p ↦ rw p (omega arith)
        | no q ↦ omega (arith, cells_apart x y (omega arith) (omega arith))
      ]

  pub cells_inside : (x : ℕ) → x < length ns → first_cell ns x + cells_of (get_or ns x 0) ≤ cell_count ns
  cells_inside x h = omega (arith, cells_apart x (length ns) h (le_refl _), first_cell_end (length ns) (le_refl _))

-- a file's sizes: as many as there are names, each at its name
module _ (s : List ℕ) where
  pub sizes_length : length (sizes s) ≡ name_count s
  unfolding sizes
  sizes_length = length_tabulate (name_count s) (size_at s)

  pub size_at_lem : (i : ℕ) → i < name_count s → get_or (sizes s) i 0 ≡ size_at s i
  unfolding sizes
  size_at_lem i h = get_or_tabulate (name_count s) (size_at s) i 0 h

  -- whether one is a variable's or an array's, by the number of names that is at hand
  module _ (names i : ℕ) (all : names ≡ name_count s) where
    pub variable_at : i < names → is_variable (sizes s) i ≡ eqb (size_at s i) 0
    unfolding is_variable
    variable_at h = let there : i < name_count s = omega arith in rw (sizes_length, size_at_lem i there, lt-ltb i (name_count s) there)

    pub array_at : i < names → is_array (sizes s) i ≡ ltb 0 (size_at s i)
    unfolding is_array
    array_at h = let there : i < name_count s = omega arith in rw (sizes_length, size_at_lem i there, lt-ltb i (name_count s) there)

    pub no_variable : names ≤ i → is_variable (sizes s) i ≡ false
    unfolding is_variable
    no_variable h = rw (sizes_length, ← all, le-ltb i names h)

    pub no_array : names ≤ i → is_array (sizes s) i ≡ false
    unfolding is_array
    no_array h = rw (sizes_length, ← all, le-ltb i names h)

  -- the first cells of its names
  pub first_cell_suc : (i : ℕ) → i < name_count s → first_cell (sizes s) (suc i) ≡ first_cell (sizes s) i + cells_of (size_at s i)
  first_cell_suc i h = first_cell_next (sizes s) i (omega (arith, sizes_length)) ∙ ap (λ (n : ℕ). first_cell (sizes s) i + cells_of n) (size_at_lem i h)

  pub first_cell_past : (i : ℕ) → name_count s ≤ i → first_cell (sizes s) i ≡ cell_count (sizes s)
  first_cell_past i h = first_cell_end (sizes s) i (omega (arith, sizes_length))

  pub first_cell_min : (i : ℕ) → first_cell (sizes s) (min (name_count s) i) ≡ first_cell (sizes s) i
  first_cell_min i =
      elim (dec_le i (name_count s)) [
        | yes h ↦ ap (first_cell (sizes s)) (omega arith)
        | no h ↦ first_cell_past (min (name_count s) i) (omega arith) ∙ sym (first_cell_past i (omega arith))
      ]
