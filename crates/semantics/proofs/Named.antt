-- Where its names are there, an action stores inside the memory, and no value, truth or effect depends on a cell outside.
use Rattle.std.specs.Prelude.{Err, Ok}
use mathlib.Core.Path.{◌≡◌, refl, ap}
use mathlib.Core.Bool.{Bool, true, false, cond, ◌&&◌}
use mathlib.Core.List.{List}
use Prim.Native.Nat.{ℕ, ◌+◌, ◌<◌}
use native.Mathlib.Omega.{arith}
use lib.Dec.{T, eqb, ltb, ltb→lt, eqb→eq}
use lib.IntN.{ℤ, pos, negsuc}
use lib.ListN.{length, get_or}
use borrow.Author.Tests.{ltb-true, ne_eqb}
use mir.Facts.{and_yes}
use Rattle.signs.specs.declared.Reason.TheVariants.{IndexTooLarge}
use Rattle.program.specs.File.{cells_of, cell_count, first_cell, is_variable, is_array}
use Rattle.program.specs.Parts.Sorted.{arith_named, boolean_named, meaning_named}
use Rattle.program.specs.Syntax.{Arith, number, variable, element, operator, Boolean, truth, comparison, conjunction, short_circuit, negation}
use Rattle.program.proofs.Laws.{cells_inside}
use Rattle.program.specs.Meaning.{Meaning, nothing, assigns, stores, condition}
use Rattle.semantics.specs.Action.{pass, store_to, effect}
use Rattle.semantics.specs.Expression.{fault, cell_value, Place, at, nowhere, place_of, value_at, value, truth_in, Evaluation, Truth}
use Rattle.semantics.specs.declared.Effect.TheVariants.{Stored}

module _ (ns : List ℕ) where
  -- a variable that is there has one cell, and an array as many as its size says
  pub variable_there : (x : ℕ) → T (is_variable ns x) → (x < length ns) × (cells_of (get_or ns x 0) ≡ 1)
  unfolding is_variable cells_of
  variable_there x t =
      let both = and_yes (ltb x (length ns)) (eqb (get_or ns x 0) 0) t in
      (ltb→lt _ _ both.0, rw (eqb→eq (get_or ns x 0) 0 both.1))

  pub array_there : (x : ℕ) → T (is_array ns x) → (x < length ns) × (get_or ns x 0 ≡ cells_of (get_or ns x 0))
  unfolding is_array cells_of
  array_there x t =
      let both = and_yes (ltb x (length ns)) (ltb 0 (get_or ns x 0)) t in
      let some = ltb→lt 0 (get_or ns x 0) both.1 in
      (ltb→lt _ _ both.0, rw (ne_eqb (get_or ns x 0) 0 (λ e. omega arith)))

  -- a variable's cell and an element's are inside the memory
  pub variable_inside : (x : ℕ) → T (is_variable ns x) → first_cell ns x < cell_count ns
  variable_inside x t = let there = variable_there x t in omega (arith, cells_inside ns x there.0, there.1)

  pub place_inside : (x : ℕ) → T (is_array ns x) → (v : Evaluation) (c : ℕ) → place_of ns x v ≡ at c → c < cell_count ns
  unfolding place_of
  place_inside x t (Ok (pos i)) c p = by (ltb i (get_or ns x 0)) refl p
    where
      by : (b : Bool) → ltb i (get_or ns x 0) ≡ b → cond b (at (first_cell ns x + i)) (nowhere (fault IndexTooLarge)) ≡ at c → c < cell_count ns
      by true h p =
          let there = array_there x t in
          let below = ltb-true i (get_or ns x 0) h in
          let same : c ≡ first_cell ns x + i = cc in
          omega (arith, cells_inside ns x there.0, there.1)
      by false h p = absurd (let z : ◌≡◌ {A = ℕ} 0 1 = cc in omega arith)
  place_inside x t (Ok (negsuc i)) c p = absurd (let z : ◌≡◌ {A = ℕ} 0 1 = cc in omega arith)
  place_inside x t (Err f) c p = absurd (let z : ◌≡◌ {A = ℕ} 0 1 = cc in omega arith)

  -- a value stored to a place is stored to its cell, and a condition stores nothing
  stored_at : (p : Place) (v : Evaluation) (c : ℕ) (z : ℤ) → store_to p v ≡ Stored c z → p ≡ at c
  unfolding store_to
  stored_at (at d) (Ok w) c z e = cc
  stored_at (at d) (Err f) c z e = cc
  stored_at (nowhere f) v c z e = cc

  passes_nothing : (v : Truth) (c : ℕ) (z : ℤ) → pass v ≡ Stored c z → ⊥
  unfolding pass
  passes_nothing (Ok true) c z e = let z : ◌≡◌ {A = ℕ} 0 1 = cc in omega arith
  passes_nothing (Ok false) c z e = let z : ◌≡◌ {A = ℕ} 0 1 = cc in omega arith
  passes_nothing (Err f) c z e = let z : ◌≡◌ {A = ℕ} 0 1 = cc in omega arith

  -- an action stores inside the memory
  pub stores_inside : (m : List ℤ) (x : Meaning) → T (meaning_named ns x) → (c : ℕ) (z : ℤ) → effect ns m x ≡ Stored c z → c < cell_count ns
  unfolding meaning_named effect
  stores_inside m nothing t c z e = absurd (let z : ◌≡◌ {A = ℕ} 0 1 = cc in omega arith)
  stores_inside m (assigns x a) t c z e =
      let same = stored_at (at (first_cell ns x)) (value ns m a) c z e in
      let cell : c ≡ first_cell ns x = cc in
      rw cell (variable_inside x (and_yes (is_variable ns x) (arith_named ns a) t).0)
  stores_inside m (stores x i a) t c z e =
      place_inside x (and_yes (is_array ns x) (arith_named ns i && arith_named ns a) t).0 (value ns m i) c
      (stored_at (place_of ns x (value ns m i)) (value ns m a) c z e)
  stores_inside m (condition b) t c z e = absurd (passes_nothing (truth_in ns m b) c z e)

  -- in two memories with the same values in the names' cells
  module _ (m m' : List ℤ) (same : (c : ℕ) → c < cell_count ns → cell_value m c ≡ cell_value m' c) where
    place_same : (p : Place) → ((c : ℕ) → p ≡ at c → c < cell_count ns) → value_at m p ≡ value_at m' p
    unfolding value_at
    place_same (at c) inside = ap Ok (same c (inside c refl))
    place_same (nowhere f) inside = refl

    pub value_same : (a : Arith) → T (arith_named ns a) → value ns m a ≡ value ns m' a
    unfolding arith_named value
    value_same (number k z) t = refl
    value_same (variable k x) t = ap Ok (same (first_cell ns x) (variable_inside x t))
    value_same (element k x i) t =
        let named = and_yes (is_array ns x) (arith_named ns i) t in
        rw (value_same i named.1) (place_same (place_of ns x (value ns m' i)) (place_inside x named.0 (value ns m' i)))
    value_same (operator k o a b) t =
        let named = and_yes (arith_named ns a) (arith_named ns b) t in
        rw (value_same a named.0, value_same b named.1)

    pub truth_same : (b : Boolean) → T (boolean_named ns b) → truth_in ns m b ≡ truth_in ns m' b
    unfolding boolean_named truth_in
    truth_same (truth k) t = refl
    truth_same (comparison k c a b) t =
        let named = and_yes (arith_named ns a) (arith_named ns b) t in
        rw (value_same a named.0, value_same b named.1)
    truth_same (conjunction k a b) t =
        let named = and_yes (boolean_named ns a) (boolean_named ns b) t in
        rw (truth_same a named.0, truth_same b named.1)
    truth_same (short_circuit k a b) t =
        let named = and_yes (boolean_named ns a) (boolean_named ns b) t in
        rw (truth_same a named.0, truth_same b named.1)
    truth_same (negation k a) t = rw (truth_same a t)

    pub effect_same : (x : Meaning) → T (meaning_named ns x) → effect ns m x ≡ effect ns m' x
    unfolding meaning_named effect
    effect_same nothing t = refl
    effect_same (assigns x a) t = rw (value_same a (and_yes (is_variable ns x) (arith_named ns a) t).1)
    effect_same (stores x i a) t =
        let named = and_yes (arith_named ns i) (arith_named ns a) (and_yes (is_array ns x) (arith_named ns i && arith_named ns a) t).1 in
        rw (value_same i named.0, value_same a named.1)
    effect_same (condition b) t = rw (truth_same b t)
