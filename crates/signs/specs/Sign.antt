-- Signs and sets of signs (document 01, "Signs").
use Rattle.std.specs.Prelude.{ℕ, zero, suc, ◌+◌, ◌/◌, ◌%◌, Bool, cond, not, ◌&&◌, ◌||◌, eqb, ℤ, pos, negsuc}
use mathlib.Core.List.{List, [], ◌∷◌, foldr}
use Rattle.signs.specs.Lists.{passing}
use Rattle.signs.specs.declared.Sign.{Sign}
use Rattle.signs.specs.declared.Sign.TheVariants.{Minus, Zero, Plus}

-- the sign of a number
unfoldable pub sign_of : ℤ → Sign
sign_of (pos zero) = Zero
sign_of (pos (suc n)) = Plus
sign_of (negsuc n) = Minus

-- "A sign set adds 1 for minus, 2 for zero, 4 for plus": the set of one sign
unfoldable pub single : Sign → ℕ
single Minus = 1
single Zero = 2
single Plus = 4

-- the three signs, minus first
unfoldable pub signs : List Sign
signs = Minus ∷ Zero ∷ Plus ∷ []

-- whether a set has a sign. A number above 7 is the set of its remainder by 8
unfoldable pub has : ℕ → Sign → Bool
has set s = eqb (set / single s % 2) 1

-- the set of the signs that pass a test
unfoldable pub set_of : (Sign → Bool) → ℕ
set_of f = cond (f Minus) 1 0 + cond (f Zero) 2 0 + cond (f Plus) 4 0

-- the signs of a set, minus first
unfoldable pub members : ℕ → List Sign
members set = passing (has set) signs

-- the signs of either set
unfoldable pub unite : ℕ → ℕ → ℕ
unite a b = set_of (λ s. has a s || has b s)

-- the signs of any set of a list
unfoldable pub union_all : List ℕ → ℕ
union_all = foldr unite 0

-- a set with a sign added
unfoldable pub added : Sign → ℕ → ℕ
added s set = unite set (single s)

-- a set without a sign
unfoldable pub removed : Sign → ℕ → ℕ
removed s set = set_of (λ t. has set t && not (has (single s) t))
