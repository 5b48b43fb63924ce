-- Numbers: the value of an operator on two numbers, the reason where it has none, and comparisons (document 01, "The step").
use Rattle.std.specs.Prelude.{ℕ, suc, ◌%◌, ◌^◌, Bool, false, cond, ◌&&◌, List, [], ◌∷◌, eqb, ℤ, pos, negsuc, neg_ℤ, ◌+ℤ◌, ◌-ℤ◌, ◌*ℤ◌}
use Rattle.std.specs.Int.Signed.{le_z, lt_z, quot_z}
use Rattle.signs.specs.declared.Operator.{Operator}
use Rattle.signs.specs.declared.Operator.TheVariants.{Add, Sub, Mul, Div, Pow}
use Rattle.signs.specs.declared.Comparison.{Comparison}
use Rattle.signs.specs.declared.Comparison.TheVariants.{Equal, Greater, AtLeast}
use Rattle.signs.specs.declared.Reason.{Reason}
use Rattle.signs.specs.declared.Reason.TheVariants.{ConditionFalse, DivisorZero, ExponentNegative, IndexNegative, IndexTooLarge, OutOfRange}
use Rattle.std.specs.Prelude.{Result, Ok, Err}

-- "the reason is: 31 condition false; 32 divisor zero; 33 exponent negative; 34 index below zero; 35 index at or past the size; 36 exact result
-- outside the range"
unfoldable pub reason_number : Reason → ℕ
reason_number ConditionFalse = 31
reason_number DivisorZero = 32
reason_number ExponentNegative = 33
reason_number IndexNegative = 34
reason_number IndexTooLarge = 35
reason_number OutOfRange = 36

-- a value in document 01's numbers: 0 and the number, or the reason
unfoldable pub value_numbers : Result ℤ Reason → List ℤ
value_numbers (Ok z) = pos 0 ∷ z ∷ []
value_numbers (Err r) = pos (reason_number r) ∷ []

-- "Values run from −2147483648 to 2147483647."
unfoldable pub in_range : ℤ → Bool
in_range z = le_z (neg_ℤ (pos 2147483648)) z && le_z z (pos 2147483647)

-- "36 exact result outside the range": an exact result as a value
unfoldable pub exact : ℤ → Result ℤ Reason
exact z = cond (in_range z) (Ok z) (Err OutOfRange)

-- whether two numbers are the same
unfoldable pub equal : ℤ → ℤ → Bool
equal (pos a) (pos b) = eqb a b
equal (pos a) (negsuc b) = false
equal (negsuc a) (pos b) = false
equal (negsuc a) (negsuc b) = eqb a b

-- "Any number to the power 0 is 1, 0 included." By magnitude and parity, so that 1 ^ 2147483647 computes; `proofs/Power` shows that it is the
-- repeated product
unfoldable pub power : ℤ → ℕ → ℤ
power (pos a) n = pos (a ^ n)
power (negsuc a) n = cond (eqb (n % 2) 0) (pos (suc a ^ n)) (neg_ℤ (pos (suc a ^ n)))

-- "32 divisor zero", before 36; "Division drops the fraction"
unfoldable pub quotient : ℤ → ℤ → Result ℤ Reason
quotient a b = cond (equal b (pos 0)) (Err DivisorZero) (exact (quot_z a b))

-- "33 exponent negative", before 36
unfoldable pub raised : ℤ → ℤ → Result ℤ Reason
raised a (pos n) = exact (power a n)
raised a (negsuc n) = Err ExponentNegative

-- the value of an operator on two numbers: "3 to 7 are P + Q, P − Q, P × Q, P / Q, P ^ Q"
unfoldable pub apply : Operator → ℤ → ℤ → Result ℤ Reason
apply Add a b = exact (a +ℤ b)
apply Sub a b = exact (a -ℤ b)
apply Mul a b = exact (a *ℤ b)
apply Div a b = quotient a b
apply Pow a b = raised a b

-- the truth of a comparison of two numbers: "1 P = Q; 2 P > Q; 3 P ≥ Q"
unfoldable pub compares : Comparison → ℤ → ℤ → Bool
compares Equal a b = equal a b
compares Greater a b = lt_z b a
compares AtLeast a b = le_z b a

-- the row that an operator on two numbers answers
unfoldable pub value_row : Operator → ℤ → ℤ → List ℤ
value_row o a b = value_numbers (apply o a b)
