-- The operators on signs and on sets of signs (document 01, "Signs").
use Rattle.std.specs.Prelude.{ℕ, ◌+◌, ◌*◌, ◌%◌, get_or}
use mathlib.Core.List.{List, [], ◌∷◌, flatten}
use Rattle.signs.specs.Lists.{pairs, tabulate, indices}
use Rattle.signs.specs.Sign.{members, union_all}
use Rattle.signs.specs.declared.Operator.{Operator}
use Rattle.signs.specs.declared.Operator.TheVariants.{Add, Sub, Mul, Div, Pow}
use Rattle.signs.specs.declared.Sign.{Sign}
use Rattle.signs.specs.declared.Sign.TheVariants.{Minus, Zero, Plus}

-- "five grids of three by three sign sets": of + − × / ^ in this order
unfoldable pub grids : List (List (List ℕ))
grids =
    ((1 ∷ 1 ∷ 7 ∷ []) ∷ (1 ∷ 2 ∷ 4 ∷ []) ∷ (7 ∷ 4 ∷ 4 ∷ []) ∷ [])
    ∷ ((7 ∷ 1 ∷ 1 ∷ []) ∷ (4 ∷ 2 ∷ 1 ∷ []) ∷ (4 ∷ 4 ∷ 7 ∷ []) ∷ [])
    ∷ ((4 ∷ 2 ∷ 1 ∷ []) ∷ (2 ∷ 2 ∷ 2 ∷ []) ∷ (1 ∷ 2 ∷ 4 ∷ []) ∷ [])
    ∷ ((6 ∷ 0 ∷ 3 ∷ []) ∷ (2 ∷ 0 ∷ 2 ∷ []) ∷ (3 ∷ 0 ∷ 6 ∷ []) ∷ [])
    ∷ ((0 ∷ 4 ∷ 5 ∷ []) ∷ (0 ∷ 4 ∷ 2 ∷ []) ∷ (0 ∷ 4 ∷ 4 ∷ []) ∷ [])
    ∷ []

-- an operator's place among the grids, and in the set table
unfoldable pub grid_number : Operator → ℕ
grid_number Add = 0
grid_number Sub = 1
grid_number Mul = 2
grid_number Div = 3
grid_number Pow = 4

-- a sign's row and column: "Rows minus, zero, plus are the left side; columns likewise"
unfoldable pub sign_number : Sign → ℕ
sign_number Minus = 0
sign_number Zero = 1
sign_number Plus = 2

-- the signs that an operator's results can have, by the signs of its sides
unfoldable pub grid : Operator → Sign → Sign → ℕ
grid o l r = get_or (get_or (get_or grids (grid_number o) []) (sign_number l) []) (sign_number r) 0

-- "on sets the union over all pairs"
unfoldable pub operate : Operator → ℕ → ℕ → ℕ
operate o a b = union_all (pairs (grid o) (members a) (members b))

-- the five operators, in the order of their grids
unfoldable pub operators : List Operator
operators = Add ∷ Sub ∷ Mul ∷ Div ∷ Pow ∷ []

-- the operators on sets as "one constant table of 320 sign sets": a row of eight for each operator and left set, with a column for each right set
unfoldable pub set_rows : List (List ℕ)
set_rows = pairs (λ o a. tabulate 8 (operate o a)) operators (indices 8)

unfoldable pub set_table : List ℕ
set_table = flatten set_rows

-- an operator's place in it for two sets, each by its remainder by 8
unfoldable pub set_place : Operator → ℕ → ℕ → ℕ
set_place o a b = 64 * grid_number o + 8 * (a % 8) + b % 8

-- what a table of words has there: the low byte
unfoldable pub operate_by : List ℕ → Operator → ℕ → ℕ → ℕ
operate_by table o a b = get_or table (set_place o a b) 0 % 256
