-- The abstract memory after a value is stored to a cell of a name: the name's set alone changes, to one that the results of the action have.
use Rattle.std.proofs.Common.{◌≡◌, ℕ, suc, ◌+◌, ◌<◌, Bool, true, false, not, ◌&&◌, T, eqb, ◌≢◌, ◌⊎◌, List, map, length, get_or, set, ℤ, pos, sym, refl, ap, ◌∙◌, subst, inl, inr, arith, length-set, get_or-set_other, get_or-set_same, ext_get_or, eq-eqb, ne_eqb}
use native.Mathlib.Decide.{ℕ_discrete, dec_le}
use mir.Facts.{and_yes, yes_and, or_yes, T_not, not_T}
use Rattle.signs.specs.Lists.{any_of, tabulate, indices}
use Rattle.signs.specs.Sign.{sign_of, single, has, added, removed}
use Rattle.signs.specs.declared.Sign.{Sign}
use Rattle.signs.proofs.Laws.{has_single, single_only, same_set, has_union_all, union_all_below, has_added, added_below, has_removed, single_below}
use Rattle.signs.proofs.Lists.{or_left, or_right, any_of_map}
use Rattle.program.specs.File.{cells_of, cell_count, first_cell}
use Rattle.program.proofs.Laws.{cells_apart, cells_inside}
use Rattle.program.proofs.Lists.{length_tabulate, get_or_tabulate, tabulate_same}
use Rattle.program.proofs.Tests.{passed}
use Rattle.semantics.specs.Expression.{cell_value}
use Rattle.analysis.specs.Abstraction.{signs_of, name_values, abstract_memory}
use Rattle.analysis.proofs.Tabulated.{same_test, any_of_at, at_any_of}
use Rattle.analysis.proofs.Values.{has_sign_of}

-- a set of signs has no other signs than those of its numbers
pub sign_of_has : (n : ℕ) (f : ℕ → ℤ) (s : Sign) → T (has (signs_of (tabulate n f)) s) → (j : ℕ) × (j < n) × (sign_of (f j) ≡ s)
unfolding signs_of
sign_of_has n f s t =
    let w = at_any_of (λ z. has (single (sign_of z)) s) f n
    (subst T (has_union_all (map (λ z. single (sign_of z)) (tabulate n f)) s ∙ any_of_map (λ a. has a s) (λ z. single (sign_of z)) (tabulate n f)) t) in
    (w.0, w.1, single_only (sign_of (f w.0)) s w.2)

pub signs_of_below : (n : ℕ) (f : ℕ → ℤ) → signs_of (tabulate n f) < 8
unfolding signs_of
signs_of_below n f = union_all_below (map (λ z. single (sign_of z)) (tabulate n f))

-- two sets of signs are the same where each sign of one is one of the other
sets_same : (a b : ℕ) → a < 8 → b < 8 → ((s : Sign) → T (has a s) → T (has b s)) → ((s : Sign) → T (has b s) → T (has a s)) → a ≡ b
sets_same a b ha hb f g = same_set a b ha hb (λ s. same_test (has a s) (has b s) (f s) (g s))

-- the numbers g are the numbers f but for z at j
module _ (n j : ℕ) (f g : ℕ → ℤ) (z : ℤ) (here : j < n) (new : g j ≡ z) (others : (i : ℕ) → i ≢ j → g i ≡ f i) where
  abbrev old : ℕ
  old = signs_of (tabulate n f)

  abbrev now : ℕ
  now = signs_of (tabulate n g)

  -- the new sign is there, and so is every sign of another number
  new_there : T (has now (sign_of z))
  new_there = subst (λ (w : ℤ). T (has now (sign_of w))) new (has_sign_of n g j here)

  other_there : (i : ℕ) → i < n → i ≢ j → T (has now (sign_of (f i)))
  other_there i h d = subst (λ (w : ℤ). T (has now (sign_of w))) (others i d) (has_sign_of n g i h)

  -- and there is no other
  now_from : (s : Sign) → T (has now s) → (sign_of z ≡ s) ⊎ ((i : ℕ) × (i < n) × (i ≢ j) × (sign_of (f i) ≡ s))
  now_from s t =
      let w = sign_of_has n g s t in
      elim (ℕ_discrete w.0 j) [
        | yes e ↦ inl (ap sign_of (sym new ∙ ap g (sym e)) ∙ w.2)
        | no d ↦ inr (w.0, w.1, d, ap sign_of (sym (others w.0 d)) ∙ w.2)
      ]

  -- another number with the overwritten one's sign: its sign stays
  kept_sign : (i : ℕ) → i < n → i ≢ j → sign_of (f i) ≡ sign_of (f j) → now ≡ added (sign_of z) old
  kept_sign i h d e = sets_same now (added (sign_of z) old) (signs_of_below n g) (added_below (sign_of z) old) into from
    where
      into : (s : Sign) → T (has now s) → T (has (added (sign_of z) old) s)
      into s t =
          rw (has_added (sign_of z) old s)
          (elim (now_from s t) [
            | inl p ↦ or_right (has old s) (has (single (sign_of z)) s) (subst (λ (u : Sign). T (has (single (sign_of z)) u)) p (has_single (sign_of z)))
            | inr w ↦ or_left (has old s) (has (single (sign_of z)) s) (subst (λ (u : Sign). T (has old u)) w.3 (has_sign_of n f w.0 w.1))
          ])

      old_stays : (s : Sign) → T (has old s) → T (has now s)
      old_stays s t =
          let w = sign_of_has n f s t in
          elim (ℕ_discrete w.0 j) [
            | yes p ↦ subst (λ (u : Sign). T (has now u)) (e ∙ ap (λ (k : ℕ). sign_of (f k)) (sym p) ∙ w.2) (other_there i h d)
            | no q ↦ subst (λ (u : Sign). T (has now u)) w.2 (other_there w.0 w.1 q)
          ]

      from : (s : Sign) → T (has (added (sign_of z) old) s) → T (has now s)
      from s t =
          elim (or_yes (has old s) (has (single (sign_of z)) s) (subst T (has_added (sign_of z) old s) t)) [
            | inl u ↦ old_stays s u
            | inr u ↦ subst (λ (u : Sign). T (has now u)) (single_only (sign_of z) s u) new_there
          ]

  -- no other number with that sign: it goes
  lost_sign : ((i : ℕ) → i < n → i ≢ j → sign_of (f i) ≡ sign_of (f j) → ⊥) → now ≡ added (sign_of z) (removed (sign_of (f j)) old)
  lost_sign alone = sets_same now (added (sign_of z) (removed (sign_of (f j)) old)) (signs_of_below n g) (added_below (sign_of z) (removed (sign_of (f j)) old)) into from
    where
      into : (s : Sign) → T (has now s) → T (has (added (sign_of z) (removed (sign_of (f j)) old)) s)
      into s t =
          rw (has_added (sign_of z) (removed (sign_of (f j)) old) s, has_removed (sign_of (f j)) old s)
          (elim (now_from s t) [
            | inl p ↦ or_right (has old s && not (has (single (sign_of (f j))) s)) (has (single (sign_of z)) s) (subst (λ (u : Sign). T (has (single (sign_of z)) u)) p (has_single (sign_of z)))
            | inr w ↦
                or_left (has old s && not (has (single (sign_of (f j))) s)) (has (single (sign_of z)) s)
                (yes_and (has old s) (not (has (single (sign_of (f j))) s))
                (subst (λ (u : Sign). T (has old u)) w.3 (has_sign_of n f w.0 w.1))
                (not_T (has (single (sign_of (f j))) s) (λ u. alone w.0 w.1 w.2 (w.3 ∙ sym (single_only (sign_of (f j)) s u)))))
          ])

      rest_stays : (s : Sign) → T (has old s) → T (not (has (single (sign_of (f j))) s)) → T (has now s)
      rest_stays s t u =
          let w = sign_of_has n f s t in
          elim (ℕ_discrete w.0 j) [
            | yes p ↦ absurd (T_not (has (single (sign_of (f j))) s) (subst (λ (v : Sign). T (has (single (sign_of (f j))) v)) (ap (λ (k : ℕ). sign_of (f k)) (sym p) ∙ w.2) (has_single (sign_of (f j)))) u)
            | no q ↦ subst (λ (u : Sign). T (has now u)) w.2 (other_there w.0 w.1 q)
          ]

      from : (s : Sign) → T (has (added (sign_of z) (removed (sign_of (f j)) old)) s) → T (has now s)
      from s t =
          elim (or_yes (has (removed (sign_of (f j)) old) s) (has (single (sign_of z)) s) (subst T (has_added (sign_of z) (removed (sign_of (f j)) old) s) t)) [
            | inl u ↦
                let both = and_yes (has old s) (not (has (single (sign_of (f j))) s)) (subst T (has_removed (sign_of (f j)) old s) u) in
                rest_stays s both.0 both.1
            | inr u ↦ subst (λ (u : Sign). T (has now u)) (single_only (sign_of z) s u) new_there
          ]

  -- one number: the new sign alone
  pub only_sign : n ≡ 1 → now ≡ single (sign_of z)
  only_sign one = sets_same now (single (sign_of z)) (signs_of_below n g) (single_below (sign_of z)) into from
    where
      into : (s : Sign) → T (has now s) → T (has (single (sign_of z)) s)
      into s t =
          elim (now_from s t) [
            | inl p ↦ subst (λ (u : Sign). T (has (single (sign_of z)) u)) p (has_single (sign_of z))
            | inr w ↦ absurd (let h = w.1 in w.2 (omega arith))
          ]

      from : (s : Sign) → T (has (single (sign_of z)) s) → T (has now s)
      from s t = subst (λ (u : Sign). T (has now u)) (single_only (sign_of z) s t) new_there

  -- whether another number has that sign
  another : Bool
  another = any_of (λ i. not (eqb i j) && has (single (sign_of (f i))) (sign_of (f j))) (indices n)

  -- so the set after a store is one of two
  pub stored_set : (now ≡ added (sign_of z) old) ⊎ (now ≡ added (sign_of z) (removed (sign_of (f j)) old))
  unfolding indices another
  stored_set = by another refl
    where
      by : (b : Bool) → another ≡ b → (now ≡ added (sign_of z) old) ⊎ (now ≡ added (sign_of z) (removed (sign_of (f j)) old))
      by true e =
          let w = at_any_of (λ i. not (eqb i j) && has (single (sign_of (f i))) (sign_of (f j))) (λ i. i) n (passed e) in
          let both = and_yes (not (eqb w.0 j)) (has (single (sign_of (f w.0))) (sign_of (f j))) w.2 in
          inl (kept_sign w.0 w.1 (λ p. T_not (eqb w.0 j) (passed (eq-eqb w.0 j p)) both.0) (single_only (sign_of (f w.0)) (sign_of (f j)) both.1))
      by false e =
          inr (lost_sign (λ i h d p.
          subst T e
          (any_of_at (λ i. not (eqb i j) && has (single (sign_of (f i))) (sign_of (f j))) (λ i. i) n i h
          (yes_and (not (eqb i j)) (has (single (sign_of (f i))) (sign_of (f j)))
          (rw (ne_eqb i j d) tt)
          (subst (λ (u : Sign). T (has (single (sign_of (f i))) u)) p (has_single (sign_of (f i))))))))

-- a value stored to a cell of name x
module _ (ns : List ℕ) (m : List ℤ) (x j : ℕ) (z : ℤ) (there : x < length ns) (cell : j < cells_of (get_or ns x 0)) (room : length m ≡ cell_count ns) where
  abbrev stored : List ℤ
  stored = set m (first_cell ns x + j) z

  pub same_cell : cell_value stored (first_cell ns x + j) ≡ z
  unfolding cell_value
  same_cell = get_or-set_same m (first_cell ns x + j) z (pos 0) (omega (arith, cells_inside ns x there))

  pub other_cell : (c : ℕ) → c ≢ first_cell ns x + j → cell_value stored c ≡ cell_value m c
  unfolding cell_value
  other_cell c d = get_or-set_other m (first_cell ns x + j) c z (pos 0) d

  -- no other name's cells are touched
  apart : (y : ℕ) → y < length ns → y ≢ x → (i : ℕ) → i < cells_of (get_or ns y 0) → first_cell ns y + i ≢ first_cell ns x + j
  apart y hy d i hi e =
      elim (dec_le (suc y) x) [
        | yes h ↦ let l = cells_apart ns y x h (omega arith) in omega arith
        | no h ↦ let l = cells_apart ns x y (omega arith) (omega arith) in omega arith
      ]

  other_name : (y : ℕ) → y < length ns → y ≢ x → name_values ns stored y ≡ name_values ns m y
  unfolding name_values
  other_name y hy d =
      tabulate_same (cells_of (get_or ns y 0)) (λ i. cell_value stored (first_cell ns y + i)) (λ i. cell_value m (first_cell ns y + i))
      (λ i hi. other_cell (first_cell ns y + i) (apart y hy d i hi))

  pub abstract_stored : abstract_memory ns stored ≡ set (abstract_memory ns m) x (signs_of (name_values ns stored x))
  unfolding abstract_memory
  abstract_stored =
      ext_get_or 0 (abstract_memory ns stored) (set (abstract_memory ns m) x (signs_of (name_values ns stored x)))
      (length_tabulate (length ns) _ ∙ sym (length-set (abstract_memory ns m) x (signs_of (name_values ns stored x)) ∙ length_tabulate (length ns) _))
      (λ y hy. at y (subst (λ (k : ℕ). y < k) (length_tabulate (length ns) (λ i. signs_of (name_values ns stored i))) hy))
    where
      at : (y : ℕ) → y < length ns → get_or (abstract_memory ns stored) y 0 ≡ get_or (set (abstract_memory ns m) x (signs_of (name_values ns stored x))) y 0
      at y hy =
          elim (ℕ_discrete y x) [
            | yes e ↦ rw e (get_or_tabulate (length ns) (λ i. signs_of (name_values ns stored i)) x 0 there
                ∙ sym (get_or-set_same (abstract_memory ns m) x (signs_of (name_values ns stored x)) 0 (subst (λ (k : ℕ). x < k) (sym (length_tabulate (length ns) (λ i. signs_of (name_values ns m i)))) there)))
            | no d ↦ get_or_tabulate (length ns) (λ i. signs_of (name_values ns stored i)) y 0 hy
                ∙ ap signs_of (other_name y hy d)
                ∙ sym (get_or-set_other (abstract_memory ns m) x y (signs_of (name_values ns stored x)) 0 d ∙ get_or_tabulate (length ns) (λ i. signs_of (name_values ns m i)) y 0 hy)
          ]
