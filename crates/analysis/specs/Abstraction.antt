-- Abstract memories (document 01: sign records; book, Definition 4.2): one sign set per name, in name order.
use Rattle.std.specs.Prelude.{ℕ, ◌+◌, Bool, cond, ◌&&◌, ◌||◌, List, map, length, ℤ, ◌==◌, nat_le, slice_index}
use Rattle.signs.specs.Lists.{tabulate}
use Rattle.signs.specs.Sign.{sign_of, single, union_all}
use Rattle.program.specs.File.{cells_of, first_cell}
use Rattle.semantics.specs.Expression.{cell_value}

-- exactly the signs of the numbers of a list
unfoldable pub signs_of : List ℤ → ℕ
signs_of zs = union_all (map (λ z. single (sign_of z)) zs)

-- the values of name i's cells
unfoldable pub name_values : List ℕ → List ℤ → ℕ → List ℤ
name_values ns m i = tabulate (cells_of (slice_index ns i)) (λ j. cell_value m (first_cell ns i + j))

-- "A memory's record holds its variables' signs and exactly the signs of each array's elements. It has one byte per name, in name order." (A
-- variable is one cell, so its set is its sign.)
unfoldable pub abstract_memory : List ℕ → List ℤ → List ℕ
abstract_memory ns m = tabulate (length ns) (λ i. signs_of (name_values ns m i))

-- "A record gives each variable one sign (1, 2 or 4) and each array a set (1 to 7; its size isn't weighed)": whether a byte is right for a name of
-- a size
unfoldable pub well_formed : ℕ → ℕ → Bool
well_formed size b = cond (size == 0) (b == 1 || b == 2 || b == 4) (nat_le 1 b && nat_le b 7)
