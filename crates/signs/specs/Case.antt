-- A worked example, and the one test that it holds.
use Rattle.std.specs.Prelude.{ℕ, Bool, true, false, cond, ◌&&◌, List, [], ◌∷◌, map, ℤ, pos, neg_ℤ}
use Rattle.signs.specs.Lists.{all_of}
use Rattle.signs.specs.Number.{equal}

-- what the definitions give, and what document 01 states, each as a row of numbers
pub record Case : Type 0 where
  pub given : List ℤ
  pub stated : List ℤ

infix 20 ◌gives◌
abbrev pub ◌gives◌ : List ℤ → List ℤ → Case
a gives b = record { given = a; stated = b }

-- whether two rows are the same
unfoldable pub same : List ℤ → List ℤ → Bool
same [] [] = true
same [] (y ∷ ys) = false
same (x ∷ xs) [] = false
same (x ∷ xs) (y ∷ ys) = equal x y && same xs ys

-- the test of a case
unfoldable pub holds : Case → Bool
holds c = same c.given c.stated

-- the test of a list of cases
unfoldable pub all_hold : List Case → Bool
all_hold = all_of holds

-- a row of naturals, and of one truth value: 1 where it is true
abbrev pub row : List ℕ → List ℤ
row = map pos

unfoldable pub flag : Bool → List ℤ
flag b = pos (cond b 1 0) ∷ []

-- a negative number
abbrev pub minus : ℕ → ℤ
minus n = neg_ℤ (pos n)
