-- The value of an arithmetic expression and the truth of a boolean one, in a memory (document 01, "The step"; book, section 2.3).
-- A memory is its cells; a cell past the end reads as 0. The names have the sizes ns.
use Rattle.std.specs.Prelude.{ℕ, ◌+◌, Bool, true, false, cond, not, ◌&&◌, List, [], ◌∷◌, ltb, get_or, ℤ, pos, negsuc, Err, Ok, Result}
use Rattle.signs.specs.Number.{reason_number, apply, compares}
use Rattle.signs.specs.declared.Comparison.{Comparison}
use Rattle.signs.specs.declared.Operator.{Operator}
use Rattle.signs.specs.declared.Reason.{Reason}
use Rattle.signs.specs.declared.Reason.TheVariants.{IndexNegative, IndexTooLarge}
use Rattle.program.specs.File.{first_cell}
use Rattle.program.specs.Syntax.{Arith, number, variable, element, operator, Boolean, truth, comparison, conjunction, short_circuit, negation}
use Rattle.semantics.specs.declared.Fault.{Fault}

-- what an arithmetic expression gives in a memory: a number, or why it is undefined
abbrev pub Evaluation : Type 0
Evaluation = Result ℤ Fault

-- what a boolean expression gives in a memory
abbrev pub Truth : Type 0
Truth = Result Bool Fault

-- what is wrong, where it is found: 32, 33 and 36 at an operator, 34 and 35 at an index, 31 at a condition. From there on it is handed on unread
abbrev pub fault : Reason → Fault
fault r = record { reason = r }

-- the value of a cell
unfoldable pub cell_value : List ℤ → ℕ → ℤ
cell_value m c = get_or m c (pos 0)

-- the cell of an array's element, by the index's value, or why there is none
pub data Place : Type 0 where
  at : ℕ → Place
  nowhere : Fault → Place

-- "34 index below zero; 35 index at or past the size"
unfoldable pub place_of : List ℕ → ℕ → Evaluation → Place
place_of ns x (Ok (pos i)) = cond (ltb i (get_or ns x 0)) (at (first_cell ns x + i)) (nowhere (fault IndexTooLarge))
place_of ns x (Ok (negsuc i)) = nowhere (fault IndexNegative)
place_of ns x (Err f) = nowhere f

unfoldable pub value_at : List ℤ → Place → Evaluation
value_at m (at c) = Ok (cell_value m c)
value_at m (nowhere f) = Err f

-- what an operator gives
unfoldable pub operated : Result ℤ Reason → Evaluation
operated (Ok z) = Ok z
operated (Err r) = Err (fault r)

-- "Left is worked out before right, operands before their operator"
unfoldable pub combine : Operator → Evaluation → Evaluation → Evaluation
combine o (Ok a) (Ok b) = operated (apply o a b)
combine o (Ok a) (Err f) = Err f
combine o (Err f) b = Err f

-- the value of an arithmetic expression
unfoldable pub value : List ℕ → List ℤ → Arith → Evaluation
value ns m (number k z) = Ok z
value ns m (variable k x) = Ok (cell_value m (first_cell ns x))
value ns m (element k x i) = value_at m (place_of ns x (value ns m i))
value ns m (operator k o a b) = combine o (value ns m a) (value ns m b)

-- a comparison, its left side worked out before its right
unfoldable pub compare_values : Comparison → Evaluation → Evaluation → Truth
compare_values c (Ok a) (Ok b) = Ok (compares c a b)
compare_values c (Ok a) (Err f) = Err f
compare_values c (Err f) b = Err f

-- "∧ needs both sides"
unfoldable pub conjoin : Truth → Truth → Truth
conjoin (Ok a) (Ok b) = Ok (a && b)
conjoin (Ok a) (Err f) = Err f
conjoin (Err f) b = Err f

-- "&& needs the right side only where the left is true"
unfoldable pub and_then : Truth → Truth → Truth
and_then (Ok true) b = b
and_then (Ok false) b = Ok false
and_then (Err f) b = Err f

unfoldable pub negate : Truth → Truth
negate (Ok a) = Ok (not a)
negate (Err f) = Err f

-- the truth of a boolean expression
unfoldable pub truth_in : List ℕ → List ℤ → Boolean → Truth
truth_in ns m (truth k) = Ok true
truth_in ns m (comparison k c a b) = compare_values c (value ns m a) (value ns m b)
truth_in ns m (conjunction k a b) = conjoin (truth_in ns m a) (truth_in ns m b)
truth_in ns m (short_circuit k a b) = and_then (truth_in ns m a) (truth_in ns m b)
truth_in ns m (negation k a) = negate (truth_in ns m a)

-- document 01's number of a fault
unfoldable pub fault_number : Fault → ℕ
fault_number f = reason_number f.reason

-- a value in document 01's numbers: 0 and the number, or the reason
unfoldable pub evaluation_numbers : Evaluation → List ℤ
evaluation_numbers (Ok z) = pos 0 ∷ z ∷ []
evaluation_numbers (Err f) = pos (fault_number f) ∷ []

-- a truth value in document 01's numbers: 0 and 1 for true or 0 for false, or the reason
unfoldable pub truth_numbers : Truth → List ℕ
truth_numbers (Ok b) = 0 ∷ cond b 1 0 ∷ []
truth_numbers (Err f) = fault_number f ∷ []
