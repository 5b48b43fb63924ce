-- The results of an action from an abstract memory ρ, in order (document 01, "Signs": "An arrow's results from a record"; book, the clauses of
-- section 4.3).
use Rattle.std.specs.Prelude.{ℕ, cond, List, [], ◌∷◌, map, slice_index, slice_set}
use mathlib.Core.List.{flat_map}
use Rattle.signs.specs.Sign.{single, members, added, removed}
use Rattle.signs.specs.declared.Sign.{Sign}
use Rattle.program.specs.Meaning.{Meaning, nothing, assigns, stores, condition}
use Rattle.analysis.specs.Signs.{may_index, signs_in, truths_in}

-- the sets that a variable can have after an assignment, by its value's signs: "one record per possible sign, minus first"
unfoldable pub assigned_sets : ℕ → List ℕ
assigned_sets values = map single (members values)

-- the sets that an array can have after a store of sign s: "the array's set with s added, then for each sign t of the old set, minus first, the
-- old set without t and with s added"
unfoldable pub sets_with : ℕ → Sign → List ℕ
sets_with old s = added s old ∷ map (λ t. added s (removed t old)) (members old)

-- the same by the value's signs: "for each value sign s, minus first"
unfoldable pub stored_sets : ℕ → ℕ → List ℕ
stored_sets old values = flat_map (sets_with old) (members values)

-- "a condition that may be true gives the record; skip the record; an assignment one record per possible sign, minus first; a store, if its index
-- may be zero or plus, for each value sign s …"
unfoldable pub results : List ℕ → Meaning → List (List ℕ)
results ρ nothing = ρ ∷ []
results ρ (assigns x a) = map (slice_set ρ x) (assigned_sets (signs_in ρ a))
results ρ (stores x i a) = cond (may_index (signs_in ρ i)) (map (slice_set ρ x) (stored_sets (slice_index ρ x) (signs_in ρ a))) []
results ρ (condition b) = cond (truths_in ρ b).holds (ρ ∷ []) []
