-- Tests over lists.
use mathlib.Core.Path.{◌≡◌, refl, sym, ap, subst, ◌∙◌}
use mathlib.Core.Logic.{◌⊎◌, inl, inr}
use mathlib.Core.Bool.{Bool, true, false, cond, ◌&&◌, ◌||◌}
use mathlib.Core.List.Memᴰ
use mathlib.Core.List.{List, [], ◌∷◌, ◌++◌, map, Memᴰ, flat_map}
use lib.Dec.{T}
use mir.Facts.{and_yes, yes_and, or_yes}
use Rattle.signs.specs.Lists.{any_of, all_of, passing, pairs}

pub or_assoc : (a b c : Bool) → (a || b || c) ≡ (a || (b || c))
or_assoc true b c = refl
or_assoc false b c = refl

pub or_false : (a : Bool) → (a || false) ≡ a
or_false true = refl
or_false false = refl

pub or_left : (a b : Bool) → T a → T (a || b)
or_left true b t = tt
or_left false b t = absurd t

pub or_right : (a b : Bool) → T b → T (a || b)
or_right true b t = tt
or_right false b t = t

pub and_mono : (a b c d : Bool) → (T a → T c) → (T b → T d) → T (a && b) → T (c && d)
and_mono a b c d f g t = yes_and c d (f (and_yes a b t).0) (g (and_yes a b t).1)

pub or_mono : (a b c d : Bool) → (T a → T c) → (T b → T d) → T (a || b) → T (c || d)
or_mono a b c d f g t = elim (or_yes a b t) [ inl u ↦ or_left c d (f u) | inr u ↦ or_right c d (g u) ]

module _ {A : Type 0} where
  pub any_of_cong : (p q : A → Bool) → ((x : A) → p x ≡ q x) → (xs : List A) → any_of p xs ≡ any_of q xs
  unfolding any_of
  any_of_cong p q h [] = refl
  any_of_cong p q h (x ∷ xs) = rw (h x, any_of_cong p q h xs)

  pub any_of_mono : (p q : A → Bool) → ((x : A) → T (p x) → T (q x)) → (xs : List A) → T (any_of p xs) → T (any_of q xs)
  unfolding any_of
  any_of_mono p q h [] t = t
  any_of_mono p q h (x ∷ xs) t = or_mono (p x) (any_of p xs) (q x) (any_of q xs) (h x) (any_of_mono p q h xs) t

  -- an element that passes the test
  pub any_of_witness : (p : A → Bool) (xs : List A) → T (any_of p xs) → (x : A) × Memᴰ x xs × T (p x)
  unfolding any_of
  any_of_witness p [] t = absurd t
  any_of_witness p (x ∷ xs) t = go (λ u. any_of_witness p xs u) (or_yes (p x) (any_of p xs) t)
    where
      go : (T (any_of p xs) → (y : A) × Memᴰ y xs × T (p y)) → T (p x) ⊎ T (any_of p xs) → (y : A) × Memᴰ y (x ∷ xs) × T (p y)
      go below (inl u) = (x, Memᴰ.head refl, u)
      go below (inr u) = let w = below u in (w.0, Memᴰ.tail w.1, w.2)

  pub all_of_member : (p : A → Bool) {x : A} (xs : List A) → T (all_of p xs) → Memᴰ x xs → T (p x)
  unfolding all_of
  all_of_member p [] t m = absurd (Memᴰ.not-nil m)
  all_of_member p {x} (y ∷ ys) t m = go (λ m'. all_of_member p ys (and_yes (p y) (all_of p ys) t).1 m') (Memᴰ.cases_cons m)
    where
      go : (Memᴰ x ys → T (p x)) → (x ≡ y) ⊎ Memᴰ x ys → T (p x)
      go below (inl e) = subst (λ (z : A). T (p z)) (sym e) (and_yes (p y) (all_of p ys) t).0
      go below (inr m') = below m'

  -- what a filter keeps
  pub passing_keeps : (p : A → Bool) {x : A} (xs : List A) → Memᴰ x xs → T (p x) → Memᴰ x (passing p xs)
  unfolding passing
  passing_keeps p [] m t = absurd (Memᴰ.not-nil m)
  passing_keeps p {x} (y ∷ ys) m t = go (λ m'. passing_keeps p ys m' t) (p y) refl (Memᴰ.cases_cons m)
    where
      go : (Memᴰ x ys → Memᴰ x (passing p ys)) → (b : Bool) → p y ≡ b → (x ≡ y) ⊎ Memᴰ x ys → Memᴰ x (cond b (y ∷ passing p ys) (passing p ys))
      go below true e (inl same) = Memᴰ.head same
      go below true e (inr m') = Memᴰ.tail (below m')
      go below false e (inl same) = absurd (subst T e (subst (λ (z : A). T (p z)) same t))
      go below false e (inr m') = below m'

  pub passing_passes : (p : A → Bool) {x : A} (xs : List A) → Memᴰ x (passing p xs) → T (p x)
  unfolding passing
  passing_passes p [] m = absurd (Memᴰ.not-nil m)
  passing_passes p {x} (y ∷ ys) m = go (λ m'. passing_passes p ys m') (p y) refl m
    where
      kept : (Memᴰ x (passing p ys) → T (p x)) → T (p y) → (x ≡ y) ⊎ Memᴰ x (passing p ys) → T (p x)
      kept below t (inl same) = subst (λ (z : A). T (p z)) (sym same) t
      kept below t (inr m') = below m'

      go : (Memᴰ x (passing p ys) → T (p x)) → (b : Bool) → p y ≡ b → Memᴰ x (cond b (y ∷ passing p ys) (passing p ys)) → T (p x)
      go below true e m' = kept below (subst T (sym e) tt) (Memᴰ.cases_cons m')
      go below false e m' = below m'

  pub any_of_append : (p : A → Bool) (xs ys : List A) → any_of p (xs ++ ys) ≡ (any_of p xs || any_of p ys)
  unfolding any_of
  any_of_append p [] ys = refl
  any_of_append p (x ∷ xs) ys = ap (λ (b : Bool). p x || b) (any_of_append p xs ys) ∙ sym (or_assoc (p x) (any_of p xs) (any_of p ys))

  pub any_of_passing : (p q : A → Bool) (xs : List A) → any_of p (passing q xs) ≡ any_of (λ x. q x && p x) xs
  unfolding any_of passing
  any_of_passing p q [] = refl
  any_of_passing p q (x ∷ xs) = go (q x) ∙ ap (λ (b : Bool). (q x && p x) || b) (any_of_passing p q xs)
    where
      go : (b : Bool) → any_of p (cond b (x ∷ passing q xs) (passing q xs)) ≡ (b && p x || any_of p (passing q xs))
      go true = refl
      go false = refl

module _ {A B : Type 0} where
  pub any_of_map : (p : B → Bool) (f : A → B) (xs : List A) → any_of p (map f xs) ≡ any_of (λ x. p (f x)) xs
  unfolding any_of
  any_of_map p f [] = refl
  any_of_map p f (x ∷ xs) = ap (λ (b : Bool). p (f x) || b) (any_of_map p f xs)

  pub any_of_flat_map : (p : B → Bool) (f : A → List B) (xs : List A) → any_of p (flat_map f xs) ≡ any_of (λ x. any_of p (f x)) xs
  unfolding any_of flat_map
  any_of_flat_map p f [] = refl
  any_of_flat_map p f (x ∷ xs) = any_of_append p (f x) (flat_map f xs) ∙ ap (λ (b : Bool). any_of p (f x) || b) (any_of_flat_map p f xs)

pub any_of_pairs : {A B C : Type 0} (p : C → Bool) (f : A → B → C) (xs : List A) (ys : List B) → any_of p (pairs f xs ys) ≡ any_of (λ x. any_of (λ y. p (f x y)) ys) xs
unfolding pairs
any_of_pairs p f xs ys =
    any_of_flat_map p (λ x. map (f x) ys) xs
    ∙ any_of_cong (λ x. any_of p (map (f x) ys)) (λ x. any_of (λ y. p (f x y)) ys) (λ x. any_of_map p (f x) ys) xs
