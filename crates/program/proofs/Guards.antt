-- The exit of a do agrees with its guards' falsehoods joined left to right, in every meaning of ∧ that is associative and has true as its unit.
use mathlib.Core.Path.{◌≡◌, refl, sym, ap, ◌∙◌}
use mathlib.Core.List.{List, [], ◌∷◌, ◌++◌, foldl}
use Prim.Native.Nat.{ℕ}
use Rattle.program.specs.Graph.{guards, done, selected}
use Rattle.program.specs.Parts.Guards.{all_false}
use Rattle.program.specs.Syntax.{Boolean, truth, conjunction, negation, Command, skip, assign, store, sequence, conditional, iteration, guarded, choice, jump}

-- a meaning of booleans: what it makes of ∧, of true, and of ¬, whose entry it does not look at
pub record Joins {A : Type 0} (h : Boolean → A) (join : A → A → A) (unit : A) : Type 0 where
  pub both : (k : ℕ) (a b : Boolean) → h (conjunction k a b) ≡ join (h a) (h b)
  pub yes : (k : ℕ) → h (truth k) ≡ unit
  pub not_labelled : (k : ℕ) (b : Boolean) → h (negation k b) ≡ h (negation 0 b)
  pub assoc : (a b c : A) → join (join a b) c ≡ join a (join b c)
  pub left_unit : (a : A) → join unit a ≡ a
  pub right_unit : (a : A) → join a unit ≡ a

module _ {A : Type 0} {h : Boolean → A} {join : A → A → A} {unit : A} (j : Joins h join unit) where
  -- the falsehoods of guards joined to what is there
  abbrev pub folded : A → List Boolean → A
  folded a bs = foldl (λ x b. join x (h (negation 0 b))) a bs

  folded_from : (a : A) (bs : List Boolean) → folded a bs ≡ join a (folded unit bs)
  folded_from a [] = sym (j.right_unit a)
  folded_from a (b ∷ bs) =
      folded_from (join a (h (negation 0 b))) bs
      ∙ j.assoc a (h (negation 0 b)) (folded unit bs)
      ∙ ap (join a) (ap (λ x. join x (folded unit bs)) (sym (j.left_unit (h (negation 0 b)))) ∙ sym (folded_from (join unit (h (negation 0 b))) bs))

  pub folded_append : (a : A) (bs cs : List Boolean) → folded a (bs ++ cs) ≡ folded (folded a bs) cs
  folded_append a [] cs = refl
  folded_append a (b ∷ bs) cs = folded_append (join a (h (negation 0 b))) bs cs

  false_folded : (x : Boolean) (bs : List Boolean) → h (foldl (λ joined g. conjunction 0 joined (negation 0 g)) x bs) ≡ folded (h x) bs
  false_folded x [] = refl
  false_folded x (b ∷ bs) = false_folded (conjunction 0 x (negation 0 b)) bs ∙ ap (λ a. folded a bs) (j.both 0 x (negation 0 b))

  all_false_lem : (bs : List Boolean) → h (all_false bs) ≡ folded unit bs
  unfolding all_false
  all_false_lem [] = j.yes 0
  all_false_lem (b ∷ bs) = false_folded (negation 0 b) bs ∙ ap (λ a. folded a bs) (sym (j.left_unit (h (negation 0 b))))

  pub done_folded : (c : Command) → h (done c) ≡ folded unit (guards c)
  unfolding done guards
  done_folded (guarded k b c) = j.not_labelled k b ∙ sym (j.left_unit (h (negation 0 b)))
  done_folded (choice k c d) =
      j.both k (done c) (done d)
      ∙ ap (λ x. join x (h (done d))) (done_folded c)
      ∙ ap (join (folded unit (guards c))) (done_folded d)
      ∙ sym (folded_append unit (guards c) (guards d) ∙ folded_from (folded unit (guards c)) (guards d))
  done_folded (skip k) = j.yes k
  done_folded (assign k x e) = j.yes k
  done_folded (store k x i e) = j.yes k
  done_folded (sequence k c d) = j.yes k
  done_folded (conditional k c) = j.yes k
  done_folded (iteration k c) = j.yes k
  done_folded (jump k x) = j.yes k

  pub left_to_right : (c : Command) → h (done c) ≡ h (all_false (guards c))
  left_to_right c = done_folded c ∙ sym (all_false_lem (guards c))

  -- a guard after earlier ones: their falsehoods, left to right, and then its own
  pub selected_folded : (earlier : List Boolean) (b : Boolean) → h (selected earlier b) ≡ join (folded unit earlier) (h b)
  unfolding selected
  selected_folded [] b = sym (j.left_unit (h b))
  selected_folded (g ∷ earlier) b =
      j.both 0 (negation 0 g) (selected earlier b)
      ∙ ap (join (h (negation 0 g))) (selected_folded earlier b)
      ∙ sym (j.assoc (h (negation 0 g)) (folded unit earlier) (h b))
      ∙ ap (λ x. join x (h b)) (sym (folded_from (h (negation 0 g)) earlier) ∙ ap (λ x. folded x earlier) (sym (j.left_unit (h (negation 0 g)))))
