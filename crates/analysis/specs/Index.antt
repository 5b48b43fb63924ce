-- The sign sets of the index expressions of an action in an abstract memory ρ: "an index expression, anywhere in the action" (document 01, "Signs").
use Rattle.std.specs.Prelude.{ℕ, Bool, List, [], ◌∷◌, ◌++◌}
use Rattle.signs.specs.Lists.{any_of}
use Rattle.signs.specs.Sign.{has}
use Rattle.signs.specs.declared.Sign.TheVariants.{Minus}
use Rattle.program.specs.Syntax.{Arith, number, variable, element, operator, Boolean, truth, comparison, conjunction, short_circuit, negation}
use Rattle.program.specs.Meaning.{Meaning, nothing, assigns, stores, condition}
use Rattle.analysis.specs.Signs.{signs_in}

-- those of an arithmetic expression, and of a boolean one
unfoldable pub arith_indexes : List ℕ → Arith → List ℕ
arith_indexes ρ (number k z) = []
arith_indexes ρ (variable k x) = []
arith_indexes ρ (element k x i) = signs_in ρ i ∷ arith_indexes ρ i
arith_indexes ρ (operator k o a b) = arith_indexes ρ a ++ arith_indexes ρ b

unfoldable pub boolean_indexes : List ℕ → Boolean → List ℕ
boolean_indexes ρ (truth k) = []
boolean_indexes ρ (comparison k c a b) = arith_indexes ρ a ++ arith_indexes ρ b
boolean_indexes ρ (conjunction k a b) = boolean_indexes ρ a ++ boolean_indexes ρ b
boolean_indexes ρ (short_circuit k a b) = boolean_indexes ρ a ++ boolean_indexes ρ b
boolean_indexes ρ (negation k a) = boolean_indexes ρ a

-- those of an action, by its meaning
unfoldable pub index_sets : List ℕ → Meaning → List ℕ
index_sets ρ nothing = []
index_sets ρ (assigns x a) = arith_indexes ρ a
index_sets ρ (stores x i a) = signs_in ρ i ∷ (arith_indexes ρ i ++ arith_indexes ρ a)
index_sets ρ (condition b) = boolean_indexes ρ b

-- whether one of some sets "has minus"
unfoldable pub any_negative : List ℕ → Bool
any_negative sets = any_of (λ set. has set Minus) sets

-- whether an action holds an index expression "whose set has minus"
unfoldable pub may_be_negative : List ℕ → Meaning → Bool
may_be_negative ρ x = any_negative (index_sets ρ x)
