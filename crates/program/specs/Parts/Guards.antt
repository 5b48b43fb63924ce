-- The exit of a do by the list of its guards, as document 01 words it: "¬b of every guard of the loop, joined by ∧ left to right". `left_to_right` of
-- proofs/Laws says that `done` agrees with it.
use mathlib.Core.List.{List, [], ◌∷◌, foldl}
use Rattle.program.specs.Syntax.{Boolean, truth, conjunction, negation}

-- the falsehoods of guards joined by ∧, left to right
unfoldable pub all_false : List Boolean → Boolean
all_false [] = truth 0
all_false (b ∷ bs) = foldl (λ joined g. conjunction 0 joined (negation 0 g)) (negation 0 b) bs
