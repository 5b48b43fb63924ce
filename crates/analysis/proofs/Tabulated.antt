-- Tests over what a function gives at 0, 1, … n - 1.
use Rattle.std.proofs.Common.{◌≡◌, ℕ, zero, suc, ◌<◌, Bool, true, false, ◌||◌, T, ◌⊎◌, List, [], ◌∷◌, ◌++◌, refl, subst, inl, inr, arith}
use mathlib.Core.List.Memᴰ
use mathlib.Core.List.{Memᴰ}
use native.Mathlib.Decide.{ℕ_discrete}
use mir.Facts.{or_yes, and_yes, yes_and}
use Rattle.signs.specs.Lists.{any_of, all_of, tabulate}
use Rattle.signs.proofs.Lists.{or_left, or_right, any_of_append}

-- two tests that pass together are the same
pub same_test : (a b : Bool) → (T a → T b) → (T b → T a) → a ≡ b
same_test true true f g = refl
same_test true false f g = absurd (f tt)
same_test false true f g = absurd (g tt)
same_test false false f g = refl

module _ {A : Type 0} where
  -- a test that an element passes
  pub member_any_of : (p : A → Bool) {x : A} (xs : List A) → Memᴰ x xs → T (p x) → T (any_of p xs)
  unfolding any_of
  member_any_of p [] m t = absurd (Memᴰ.not-nil m)
  member_any_of p {x} (y ∷ ys) m t = go (λ m'. member_any_of p ys m' t) (Memᴰ.cases_cons m)
    where
      go : (Memᴰ x ys → T (any_of p ys)) → (x ≡ y) ⊎ Memᴰ x ys → T (p y || any_of p ys)
      go below (inl e) = or_left (p y) (any_of p ys) (subst (λ (z : A). T (p z)) e t)
      go below (inr m') = or_right (p y) (any_of p ys) (below m')

  module _ (p : A → Bool) (f : ℕ → A) where
    -- a test passes at some of them where it passes at one, and only there
    pub any_of_at : (n j : ℕ) → j < n → T (p (f j)) → T (any_of p (tabulate n f))
    unfolding tabulate any_of
    any_of_at zero j h t = absurd (omega arith)
    any_of_at (suc n) j h t =
        rw (any_of_append p (tabulate n f) (f n ∷ []))
        (elim (ℕ_discrete j n) [
          | yes e ↦ or_right (any_of p (tabulate n f)) _ (or_left (p (f n)) false (subst (λ k. T (p (f k))) e t))
          | no e ↦ or_left (any_of p (tabulate n f)) _ (any_of_at n j (omega arith) t)
        ])

    pub at_any_of : (n : ℕ) → T (any_of p (tabulate n f)) → (j : ℕ) × (j < n) × T (p (f j))
    unfolding tabulate any_of
    at_any_of zero t = absurd t
    at_any_of (suc n) t = go (λ u. at_any_of n u) (or_yes (any_of p (tabulate n f)) _ (subst T (any_of_append p (tabulate n f) (f n ∷ [])) t))
      where
        last : T (p (f n)) ⊎ T false → (j : ℕ) × (j < suc n) × T (p (f j))
        last (inl u) = (n, omega arith, u)
        last (inr u) = absurd u

        go : (T (any_of p (tabulate n f)) → (j : ℕ) × (j < n) × T (p (f j))) → T (any_of p (tabulate n f)) ⊎ T (p (f n) || false) → (j : ℕ) × (j < suc n) × T (p (f j))
        go below (inl u) = let w = below u in let h = w.1 in (w.0, omega arith, w.2)
        go below (inr u) = last (or_yes (p (f n)) false u)

  -- a test passes at all of them where it passes at each
  all_of_append : (p : A → Bool) (xs ys : List A) → T (all_of p xs) → T (all_of p ys) → T (all_of p (xs ++ ys))
  unfolding all_of
  all_of_append p [] ys t u = u
  all_of_append p (x ∷ xs) ys t u =
      let both = and_yes (p x) (all_of p xs) t in
      yes_and (p x) (all_of p (xs ++ ys)) both.0 (all_of_append p xs ys both.1 u)

  pub all_of_below : (p : A → Bool) (n : ℕ) (f : ℕ → A) → ((i : ℕ) → i < n → T (p (f i))) → T (all_of p (tabulate n f))
  unfolding tabulate all_of
  all_of_below p zero f h = tt
  all_of_below p (suc n) f h =
      all_of_append p (tabulate n f) (f n ∷ []) (all_of_below p n f (λ i l. h i (omega arith))) (yes_and (p (f n)) true (h n (omega arith)) tt)
