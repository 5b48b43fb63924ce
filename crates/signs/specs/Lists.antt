-- What the definitions say of lists, beyond the library's own.
use Rattle.std.specs.Prelude.{ℕ, zero, suc, Bool, true, false, cond, ◌&&◌, ◌||◌}
use mathlib.Core.List.{List, [], ◌∷◌, ◌++◌, map, flat_map}

module _ {A : Type 0} where
  -- whether some element passes a test
  unfoldable pub any_of : (A → Bool) → List A → Bool
  any_of f [] = false
  any_of f (x ∷ xs) = f x || any_of f xs

  -- whether every element passes a test
  unfoldable pub all_of : (A → Bool) → List A → Bool
  all_of f [] = true
  all_of f (x ∷ xs) = f x && all_of f xs

  -- the elements that pass a test, in order
  unfoldable pub passing : (A → Bool) → List A → List A
  passing f [] = []
  passing f (x ∷ xs) = cond (f x) (x ∷ passing f xs) (passing f xs)

  -- what a function gives at 0, 1, … n - 1
  unfoldable pub tabulate : ℕ → (ℕ → A) → List A
  tabulate zero f = []
  tabulate (suc n) f = tabulate n f ++ (f n ∷ [])

-- what a function gives at every pair of two lists' elements, the first list's order first
unfoldable pub pairs : {A B C : Type 0} → (A → B → C) → List A → List B → List C
pairs f xs ys = flat_map (λ x. map (f x) ys) xs

-- 0, 1, … n - 1
unfoldable pub indices : ℕ → List ℕ
indices n = tabulate n (λ i. i)
