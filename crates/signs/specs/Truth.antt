-- The truth answers of conditions on signs (document 01, "Signs").
use Rattle.std.specs.Prelude.{ℕ, Bool, true, false, cond, not, ◌&&◌, ◌||◌, ℤ, pos, neg_ℤ}
use mathlib.Core.List.{List, [], ◌∷◌, ◌++◌, flat_map}
use Rattle.signs.specs.Lists.{any_of, pairs}
use Rattle.signs.specs.Number.{compares}
use Rattle.signs.specs.Sign.{members}
use Rattle.signs.specs.declared.Comparison.{Comparison}
use Rattle.signs.specs.declared.Sign.{Sign}
use Rattle.signs.specs.declared.Sign.TheVariants.{Minus, Zero, Plus}
use Rattle.signs.specs.declared.Truths.{Truths}

-- the set of the truth values in a list
unfoldable pub truths_of : List Bool → Truths
truths_of bs = record { holds = any_of (λ b. b) bs; fails = any_of not bs }

-- whether a truth value is in a set
unfoldable pub among : Bool → Truths → Bool
among true t = t.holds
among false t = t.fails

-- the truth values of a set
unfoldable pub answers : Truths → List Bool
answers t = cond t.holds (true ∷ []) [] ++ cond t.fails (false ∷ []) []

-- numbers of a sign, as many as it takes for two of them to be equal, in order and out of order
unfoldable pub samples : Sign → List ℤ
samples Minus = neg_ℤ (pos 2) ∷ neg_ℤ (pos 1) ∷ []
samples Zero = pos 0 ∷ []
samples Plus = pos 1 ∷ pos 2 ∷ []

-- the truth answers that a comparison of numbers of two signs can have
unfoldable pub compare_signs : Comparison → Sign → Sign → Truths
compare_signs c l r = truths_of (pairs (compares c) (samples l) (samples r))

-- "A comparison gives the truth answers that its pairs of signs can have."
unfoldable pub compare_sets : Comparison → ℕ → ℕ → Truths
compare_sets c a b = truths_of (flat_map answers (pairs (compare_signs c) (members a) (members b)))

-- "True gives true"
unfoldable pub certain : Truths
certain = truths_of (true ∷ [])

-- "¬ exchanges the answers"
unfoldable pub negated : Truths → Truths
negated t = record { holds = t.fails; fails = t.holds }

-- "∧ combines all pairs"
unfoldable pub conjoined : Truths → Truths → Truths
conjoined a b = truths_of (pairs ◌&&◌ (answers a) (answers b))

-- "&& gives false if the left may be false, and the right's answers if the left may be true"
unfoldable pub and_then : Truths → Truths → Truths
and_then a b = record { holds = a.holds && b.holds; fails = a.fails || (a.holds && b.fails) }
