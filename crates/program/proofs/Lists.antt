-- Laws of lists: lists that grow at their end, and what holds of every element.
use mathlib.Core.Path.{◌≡◌, refl, sym, ◌∙◌, ap}
use mathlib.Core.List.{List, [], ◌∷◌, ◌++◌, append_assoc, flat_map}
use Prim.Native.Nat.{ℕ, zero, suc, ◌≤◌, ◌<◌}
use native.Mathlib.Nat.{le_of_suc-le-suc, not-suc-le-zero}
use native.Mathlib.Omega.{arith}
use native.Mathlib.Decide.{ℕ_discrete}
use lib.ListN.{length, get_or, length-append, get_or-append, get_or-eq_default, replicate}
use lib.Seq.{get_or-append_seam}
use Rattle.signs.specs.Lists.{tabulate}

-- a list that gets one element more at its end each time: its length is the number of times, and it holds each element at its place
module _ {A : Type 0} (list : ℕ → List A) (at : ℕ → A) (empty : list 0 ≡ []) (grows : (n : ℕ) → list (suc n) ≡ list n ++ (at n ∷ [])) where
  pub grown_length : (n : ℕ) → length (list n) ≡ n
  grown_length zero = rw empty
  grown_length (suc n) = rw (grows n, length-append) (omega (arith, grown_length n))

  pub grown_at : (n r : ℕ) (d : A) → r < n → get_or (list n) r d ≡ at r
  grown_at zero r d h = absurd (not-suc-le-zero h)
  grown_at (suc n) r d h =
      elim (ℕ_discrete r n) [
        | yes p ↦ rw (grows n, p) (ap (λ k. get_or (list n ++ (at n ∷ [])) k d) (sym (grown_length n)) ∙ get_or-append_seam (list n) (at n) [] d)
        | no f ↦ rw (grows n) (get_or-append (list n) (at n ∷ []) d r (omega (arith, grown_length n)) ∙ grown_at n r d (omega arith))
      ]

  pub grown_past : (n r : ℕ) (d : A) → n ≤ r → get_or (list n) r d ≡ d
  grown_past n r d h = get_or-eq_default (list n) d (omega (arith, grown_length n))

-- the same of what a function gives at 0, 1, … n - 1
module _ {A : Type 0} (n : ℕ) (f : ℕ → A) where
  pub length_tabulate : length (tabulate n f) ≡ n
  unfolding tabulate
  length_tabulate = grown_length (λ k. tabulate k f) f refl (λ k. refl) n

  pub get_or_tabulate : (i : ℕ) (d : A) → i < n → get_or (tabulate n f) i d ≡ f i
  unfolding tabulate
  get_or_tabulate i d h = grown_at (λ k. tabulate k f) f refl (λ k. refl) n i d h

pub tabulate_same : {A : Type 0} (n : ℕ) (f g : ℕ → A) → ((i : ℕ) → i < n → f i ≡ g i) → tabulate n f ≡ tabulate n g
unfolding tabulate
tabulate_same zero f g h = refl
tabulate_same (suc n) f g h = rw (tabulate_same n f g (λ i l. h i (omega arith)), h n (omega arith))

-- one value all along and past the end
pub get_or_same : {A : Type 0} (m : ℕ) (a : A) (k : ℕ) → get_or (replicate m a) k a ≡ a
get_or_same zero a k = refl
get_or_same (suc m) a zero = refl
get_or_same (suc m) a (suc k) = get_or_same m a k

module _ {A : Type 0} (P : A → Type 0) where
  -- a property of every element
  pub data Each : List A → Type 0 where
    none : Each []
    more : {x : A} {xs : List A} → P x → Each xs → Each (x ∷ xs)

module _ {A : Type 0} {P : A → Type 0} where
  pub each_append : {xs ys : List A} → Each P xs → Each P ys → Each P (xs ++ ys)
  each_append none k = k
  each_append (more p h) k = more p (each_append h k)

  pub each_at : {xs : List A} (k : ℕ) (d : A) → Each P xs → k < length xs → P (get_or xs k d)
  each_at k d none l = absurd (not-suc-le-zero l)
  each_at zero d (more p h) l = p
  each_at (suc k) d (more p h) l = each_at k d h (le_of_suc-le-suc l)

-- what the elements of two lists give, one after the other
pub concat_append : {A B : Type 0} (f : A → List B) (xs ys : List A) → flat_map f (xs ++ ys) ≡ flat_map f xs ++ flat_map f ys
unfolding flat_map
concat_append f [] ys = refl
concat_append f (x ∷ xs) ys = rw (concat_append f xs ys) (sym (append_assoc (f x) (flat_map f xs) (flat_map f ys)))
