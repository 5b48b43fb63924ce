-- The worked examples of document 01 on numbers and signs. `proofs/Examples` shows that each holds.
use Rattle.std.specs.Prelude.{List, [], ◌∷◌, ◌++◌, pos}
use Rattle.signs.specs.Case.{Case, ◌gives◌, row, flag, minus}
use Rattle.signs.specs.Grid.{grid, operate}
use Rattle.signs.specs.Number.{apply, value_numbers}
use Rattle.signs.specs.Sign.{has, sign_of}
use Rattle.signs.specs.declared.Operator.TheVariants.{Add, Div, Pow}
use Rattle.signs.specs.declared.Sign.TheVariants.{Plus}

-- (P) "−7 / 2 and 7 / −2 are −3", "−2147483648 / −1: 36", "0 ^ 0 is 1; 2 ^ 30 is 1073741824; 2 ^ 31: 36", "1 ^ 2147483647 is 1"; then the order of
-- the reasons
unfoldable pub number_cases : List Case
number_cases =
    (value_numbers (apply Div (minus 7) (pos 2)) gives (pos 0 ∷ minus 3 ∷ []))
    ∷ (value_numbers (apply Div (pos 7) (minus 2)) gives (pos 0 ∷ minus 3 ∷ []))
    ∷ (value_numbers (apply Div (minus 2147483648) (minus 1)) gives row (36 ∷ []))
    ∷ (value_numbers (apply Pow (pos 0) (pos 0)) gives row (0 ∷ 1 ∷ []))
    ∷ (value_numbers (apply Pow (pos 2) (pos 30)) gives row (0 ∷ 1073741824 ∷ []))
    ∷ (value_numbers (apply Pow (pos 2) (pos 31)) gives row (36 ∷ []))
    ∷ (value_numbers (apply Pow (minus 2) (pos 31)) gives (pos 0 ∷ minus 2147483648 ∷ []))
    ∷ (value_numbers (apply Pow (pos 1) (pos 2147483647)) gives row (0 ∷ 1 ∷ []))
    ∷ (value_numbers (apply Div (pos 1) (pos 0)) gives row (32 ∷ []))
    ∷ (value_numbers (apply Pow (pos 0) (minus 1)) gives row (33 ∷ []))
    ∷ []

-- "Plus divided by plus as plus only: 1 / 2 is 0"
unfoldable pub sign_cases : List Case
sign_cases =
    (value_numbers (apply Div (pos 1) (pos 2)) gives row (0 ∷ 0 ∷ []))
    ∷ (flag (has (grid Div Plus Plus) (sign_of (pos 0))) gives row (1 ∷ []))
    ∷ (row (operate Div 4 4 ∷ operate Add 5 2 ∷ operate Pow 3 6 ∷ []) gives row (6 ∷ 5 ∷ 7 ∷ []))
    ∷ []

unfoldable pub cases : List Case
cases = number_cases ++ sign_cases
