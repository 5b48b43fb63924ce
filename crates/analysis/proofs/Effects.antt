-- Where an action has an effect on a memory, the abstract memory afterwards is among the action's results (book, Proposition 4.25).
use Rattle.std.specs.Prelude.{Err, Ok}
use Rattle.std.proofs.Common.{◌≡◌, ℕ, ◌+◌, ◌<◌, Bool, true, false, cond, ◌&&◌, T, ltb, ◌≢◌, ◌⊎◌, List, [], ◌∷◌, ◌++◌, map, length, get_or, set, ℤ, pos, negsuc, sym, refl, ap, ◌∙◌, subst, inl, inr, arith, ltb-true}
use mathlib.Core.List.Memᴰ
use mathlib.Core.List.{flat_map, Memᴰ}
use mir.Facts.{and_yes}
use Rattle.signs.specs.Lists.{tabulate}
use Rattle.signs.specs.Sign.{sign_of, single, has, members, added, removed}
use Rattle.signs.specs.Truth.{among}
use Rattle.signs.specs.declared.Reason.TheVariants.{IndexTooLarge}
use Rattle.signs.proofs.Laws.{has_member}
use Rattle.program.specs.File.{cells_of, cell_count, first_cell, is_variable, is_array}
use Rattle.program.specs.Parts.Sorted.{meaning_named, arith_named, boolean_named}
use Rattle.program.specs.Syntax.{Arith, Boolean}
use Rattle.program.proofs.Lists.{get_or_tabulate}
use Rattle.program.proofs.Tests.{is_true}
use Rattle.program.specs.Meaning.{Meaning, nothing, assigns, stores, condition}
use Rattle.semantics.specs.Action.{pass, store_to, effect, after, is_defined}
use Rattle.semantics.specs.Expression.{fault, cell_value, at, nowhere, place_of, value, truth_in, Evaluation, Truth}
use Rattle.semantics.specs.declared.Effect.{Effect}
use Rattle.analysis.specs.Abstraction.{signs_of, name_values, abstract_memory}
use Rattle.analysis.specs.Results.{assigned_sets, sets_with, stored_sets, results}
use Rattle.analysis.specs.Signs.{may_index, signs_in, truths_in}
use Rattle.semantics.proofs.Laws.{variable_there, array_there}
use Rattle.analysis.proofs.Stores.{only_sign, stored_set, same_cell, other_cell, abstract_stored}
use Rattle.analysis.proofs.Values.{may_index_lem, cell_sign, value_sound, truth_sound}

-- what is in the list of an element is in all the lists together
pub member_flat_map : {A B : Type 0} (f : A → List B) {x : A} {y : B} (xs : List A) → Memᴰ x xs → Memᴰ y (f x) → Memᴰ y (flat_map f xs)
unfolding flat_map
member_flat_map f [] m k = absurd (Memᴰ.not-nil m)
member_flat_map {A} {B} f {x} {y} (z ∷ zs) m k = go (λ m'. member_flat_map f zs m' k) (Memᴰ.cases_cons m)
  where
    go : (Memᴰ x zs → Memᴰ y (flat_map f zs)) → (x ≡ z) ⊎ Memᴰ x zs → Memᴰ y (f z ++ flat_map f zs)
    go below (inl e) = Memᴰ.append_left (flat_map f zs) (subst (λ (w : A). Memᴰ y (f w)) e k)
    go below (inr m') = Memᴰ.append_right (f z) (below m')

-- in a memory with a cell for each of the names'
module _ (ns : List ℕ) (m : List ℤ) (room : length m ≡ cell_count ns) where
  abbrev ρ : List ℕ
  ρ = abstract_memory ns m

  -- the abstract memory after an effect, where that is defined, is among some
  abbrev Among : Effect → List (List ℕ) → Type 0
  Among e rs = T (is_defined e) → Memᴰ (abstract_memory ns (after m e)) rs

  -- a value stored to cell j of name x: the name's set before, and what is known of it afterwards
  module _ (x j : ℕ) (z : ℤ) (there : x < length ns) (cell : j < cells_of (get_or ns x 0)) where
    abbrev before : ℕ → ℤ
    before i = cell_value m (first_cell ns x + i)

    abbrev afterwards : ℕ → ℤ
    afterwards i = cell_value (set m (first_cell ns x + j) z) (first_cell ns x + i)

    set_before : get_or ρ x 0 ≡ signs_of (tabulate (cells_of (get_or ns x 0)) before)
    unfolding abstract_memory name_values
    set_before = get_or_tabulate (length ns) (λ i. signs_of (name_values ns m i)) x 0 there

    others : (i : ℕ) → i ≢ j → afterwards i ≡ before i
    others i d = other_cell ns m x j z there cell room (first_cell ns x + i) (λ e. d (omega arith))

    one_cell : cells_of (get_or ns x 0) ≡ 1 → abstract_memory ns (set m (first_cell ns x + j) z) ≡ set ρ x (single (sign_of z))
    unfolding name_values
    one_cell one =
        abstract_stored ns m x j z there cell room
        ∙ ap (set ρ x) (only_sign (cells_of (get_or ns x 0)) j before afterwards z cell (same_cell ns m x j z there cell room) others one)

    array_among : (values : ℕ) → T (has values (sign_of z)) → Memᴰ (abstract_memory ns (set m (first_cell ns x + j) z)) (map (set ρ x) (stored_sets (get_or ρ x 0) values))
    unfolding name_values stored_sets sets_with
    array_among values h =
        rw (abstract_stored ns m x j z there cell room)
        (Memᴰ.map (set ρ x)
        (member_flat_map (sets_with (get_or ρ x 0)) (members values) (has_member values (sign_of z) h)
        (by (stored_set (cells_of (get_or ns x 0)) j before afterwards z cell (same_cell ns m x j z there cell room) others))))
      where
        by : (signs_of (tabulate (cells_of (get_or ns x 0)) afterwards) ≡ added (sign_of z) (signs_of (tabulate (cells_of (get_or ns x 0)) before)))
            ⊎ (signs_of (tabulate (cells_of (get_or ns x 0)) afterwards) ≡ added (sign_of z) (removed (sign_of (before j)) (signs_of (tabulate (cells_of (get_or ns x 0)) before))))
            → Memᴰ (signs_of (tabulate (cells_of (get_or ns x 0)) afterwards)) (added (sign_of z) (get_or ρ x 0) ∷ map (λ t. added (sign_of z) (removed t (get_or ρ x 0))) (members (get_or ρ x 0)))
        by (inl e) = Memᴰ.head (e ∙ ap (added (sign_of z)) (sym set_before))
        by (inr e) =
            Memᴰ.tail
            (subst (λ (v : ℕ). Memᴰ v (map (λ t. added (sign_of z) (removed t (get_or ρ x 0))) (members (get_or ρ x 0))))
            (sym (e ∙ ap (λ (old : ℕ). added (sign_of z) (removed (sign_of (before j)) old)) (sym set_before)))
            (Memᴰ.map (λ t. added (sign_of z) (removed t (get_or ρ x 0))) (has_member (get_or ρ x 0) (sign_of (before j)) (cell_sign ns m x j there cell))))

  assigns_among : (x : ℕ) (a : Arith) → T (is_variable ns x) → T (arith_named ns a) → Among (store_to (at (first_cell ns x)) (value ns m a)) (map (set ρ x) (assigned_sets (signs_in ρ a)))
  unfolding store_to after is_defined assigned_sets
  assigns_among x a t u d = by (value ns m a) refl d
    where
      by : (v : Evaluation) → value ns m a ≡ v → T (is_defined (store_to (at (first_cell ns x)) v)) → Memᴰ (abstract_memory ns (after m (store_to (at (first_cell ns x)) v))) (map (set ρ x) (map single (members (signs_in ρ a))))
      by (Ok z) p d =
          let there = variable_there ns x t in
          let first : first_cell ns x ≡ first_cell ns x + 0 = omega arith in
          rw (ap (λ (c : ℕ). abstract_memory ns (set m c z)) first ∙ one_cell x 0 z there.0 (omega (arith, there.1)) there.1)
          (Memᴰ.map (set ρ x) (Memᴰ.map single (has_member (signs_in ρ a) (sign_of z) (value_sound ns m a u z p))))
      by (Err f) p d = absurd d

  stores_among : (x : ℕ) (i a : Arith) → T (is_array ns x) → T (arith_named ns i) → T (arith_named ns a)
      → Among (store_to (place_of ns x (value ns m i)) (value ns m a)) (cond (may_index (signs_in ρ i)) (map (set ρ x) (stored_sets (get_or ρ x 0) (signs_in ρ a))) [])
  unfolding store_to place_of after is_defined
  stores_among x i a t u w d = by (value ns m i) refl d
    where
      at_cell : (j : ℕ) → value ns m i ≡ Ok (pos j) → j < get_or ns x 0 → (v : Evaluation) → value ns m a ≡ v → T (is_defined (store_to (at (first_cell ns x + j)) v))
          → Memᴰ (abstract_memory ns (after m (store_to (at (first_cell ns x + j)) v))) (cond (may_index (signs_in ρ i)) (map (set ρ x) (stored_sets (get_or ρ x 0) (signs_in ρ a))) [])
      at_cell j p h (Ok z) q d =
          let there = array_there ns x t in
          rw (is_true (may_index (signs_in ρ i)) (may_index_lem (signs_in ρ i) j (value_sound ns m i u (pos j) p)))
          (array_among x j z there.0 (omega (arith, there.1)) (signs_in ρ a) (value_sound ns m a w z q))
      at_cell j p h (Err f) q d = absurd d

      inside : (j : ℕ) → value ns m i ≡ Ok (pos j) → (b : Bool) → ltb j (get_or ns x 0) ≡ b
          → T (is_defined (store_to (cond b (at (first_cell ns x + j)) (nowhere (fault IndexTooLarge))) (value ns m a)))
          → Memᴰ (abstract_memory ns (after m (store_to (cond b (at (first_cell ns x + j)) (nowhere (fault IndexTooLarge))) (value ns m a)))) (cond (may_index (signs_in ρ i)) (map (set ρ x) (stored_sets (get_or ρ x 0) (signs_in ρ a))) [])
      inside j p true h d = at_cell j p (ltb-true j (get_or ns x 0) h) (value ns m a) refl d
      inside j p false h d = absurd d

      by : (v : Evaluation) → value ns m i ≡ v → T (is_defined (store_to (place_of ns x v) (value ns m a)))
          → Memᴰ (abstract_memory ns (after m (store_to (place_of ns x v) (value ns m a)))) (cond (may_index (signs_in ρ i)) (map (set ρ x) (stored_sets (get_or ρ x 0) (signs_in ρ a))) [])
      by (Ok (pos j)) p d = inside j p (ltb j (get_or ns x 0)) refl d
      by (Ok (negsuc j)) p d = absurd d
      by (Err f) p d = absurd d

  condition_among : (b : Boolean) → T (boolean_named ns b) → Among (pass (truth_in ns m b)) (cond (truths_in ρ b).holds (ρ ∷ []) [])
  unfolding pass after is_defined among
  condition_among b t d = by (truth_in ns m b) refl d
    where
      by : (v : Truth) → truth_in ns m b ≡ v → T (is_defined (pass v)) → Memᴰ (abstract_memory ns (after m (pass v))) (cond (truths_in ρ b).holds (ρ ∷ []) [])
      by (Ok true) p d = rw (is_true (truths_in ρ b).holds (truth_sound ns m b t true p)) (Memᴰ.head refl)
      by (Ok false) p d = absurd d
      by (Err f) p d = absurd d

  pub effect_among : (x : Meaning) → T (meaning_named ns x) → T (is_defined (effect ns m x)) → Memᴰ (abstract_memory ns (after m (effect ns m x))) (results ρ x)
  unfolding meaning_named effect results after
  effect_among nothing t d = Memᴰ.head refl
  effect_among (assigns x a) t d =
      let named = and_yes (is_variable ns x) (arith_named ns a) t in
      assigns_among x a named.0 named.1 d
  effect_among (stores x i a) t d =
      let named = and_yes (is_array ns x) (arith_named ns i && arith_named ns a) t in
      let sides = and_yes (arith_named ns i) (arith_named ns a) named.1 in
      stores_among x i a named.0 sides.0 sides.1 d
  effect_among (condition b) t d = condition_among b t d
