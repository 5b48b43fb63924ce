-- The sign analysis of expressions (document 01, "Signs"; book, section 4.3), in an abstract memory ρ.
use Rattle.std.specs.Prelude.{ℕ, Bool, cond, ◌||◌, List, slice_index}
use Rattle.signs.specs.Grid.{operate}
use Rattle.signs.specs.Sign.{sign_of, single, has}
use Rattle.signs.specs.Truth.{compare_sets, certain, negated, conjoined, and_then}
use Rattle.signs.specs.declared.Sign.TheVariants.{Zero, Plus}
use Rattle.signs.specs.declared.Truths.{Truths}
use Rattle.program.specs.Syntax.{Arith, number, variable, element, operator, Boolean, truth, comparison, conjunction, short_circuit, negation}

-- whether an index of these signs can be in an array: "if the index set has zero or plus"
unfoldable pub may_index : ℕ → Bool
may_index set = has set Zero || has set Plus

-- the sign set of an expression: "A number has its own sign, a variable its recorded one. An element has its array's set if the index set has zero
-- or plus, else the empty set."
unfoldable pub signs_in : List ℕ → Arith → ℕ
signs_in ρ (number k z) = single (sign_of z)
signs_in ρ (variable k x) = slice_index ρ x
signs_in ρ (element k x i) = cond (may_index (signs_in ρ i)) (slice_index ρ x) 0
signs_in ρ (operator k o a b) = operate o (signs_in ρ a) (signs_in ρ b)

-- the truth answers of a condition
unfoldable pub truths_in : List ℕ → Boolean → Truths
truths_in ρ (truth k) = certain
truths_in ρ (comparison k c a b) = compare_sets c (signs_in ρ a) (signs_in ρ b)
truths_in ρ (conjunction k a b) = conjoined (truths_in ρ a) (truths_in ρ b)
truths_in ρ (short_circuit k a b) = and_then (truths_in ρ a) (truths_in ρ b)
truths_in ρ (negation k a) = negated (truths_in ρ a)
