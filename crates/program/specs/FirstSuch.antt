-- "First such" (document 01): the first of the answers at 0, 1, … n - 1 that settles a matter. The questions, the lowest defined edge, the
-- verdict's 41 and 42 and the index mark are all found this way.
use Rattle.std.specs.Prelude.{ℕ, zero, suc, Bool, true, false, cond, None, Option, Some}

module _ {A : Type 0} (settles : A → Bool) where
  -- an answer where it settles the matter, else a later one
  unfoldable pub or_else : A → A → A
  or_else x later = cond (settles x) x later

  -- the first answer that settles the matter; `nothing` where none does
  unfoldable pub first_of : A → ℕ → (ℕ → A) → A
  first_of nothing zero f = nothing
  first_of nothing (suc n) f = or_else (first_of nothing n f) (f n)

-- the first of 0, 1, … n - 1 that passes a test
unfoldable pub is_at : Option ℕ → Bool
is_at (Some k) = true
is_at None = false

unfoldable pub first_such : ℕ → (ℕ → Bool) → Option ℕ
first_such n test = first_of is_at None n (λ k. cond (test k) (Some k) None)
