-- How the evaluators hand on what an expression or a condition gives: as one number. Document 01 has no word for it; what such a number stands for
-- is said here, once.
use Rattle.std.specs.Prelude.{◌≡◌, ℕ, ◌+◌, ◌-◌, ◌<◌, Bool, false, cond, ◌||◌, List, [], ◌∷◌, T, eqb, ltb, ℤ, pos, negsuc, nat_abs, get_or, Err, Ok}
use Rattle.std.specs.Int.Signed.{le_z, non_neg}
use Rattle.signs.specs.Number.{in_range}
use Rattle.signs.specs.declared.Reason.{Reason}
use Rattle.signs.specs.declared.Reason.TheVariants.{ConditionFalse, DivisorZero, ExponentNegative, IndexNegative, IndexTooLarge, OutOfRange}
use Rattle.program.specs.File.{first_cell, is_array}
use Rattle.program.specs.Meaning.{Meaning}
use Rattle.program.specs.Parts.Sorted.{arith_named, boolean_named, meaning_named}
use Rattle.program.specs.Syntax.{Arith, Boolean}
use Rattle.semantics.specs.Action.{effect, after, is_defined}
use Rattle.semantics.specs.Parts.Cells.{Loaded}
use Rattle.semantics.specs.Expression.{fault, Place, at, nowhere, place_of, value, truth_in, Evaluation, Truth}
use Rattle.semantics.specs.declared.Effect.{Effect}

-- the reason with a number of document 01
unfoldable pub reason_numbered : ℕ → Reason
reason_numbered k =
    get_or
    (ConditionFalse ∷ DivisorZero ∷ ExponentNegative ∷ IndexNegative ∷ IndexTooLarge ∷ OutOfRange ∷ [])
    (k - 31)
    OutOfRange

-- what a number stands for: below 2^32 itself, else the reason whose number is over 2^32
unfoldable pub evaluated : ℤ → Evaluation
evaluated (pos n) = cond (ltb n 4294967296) (Ok (pos n)) (Err (fault (reason_numbered (n - 4294967296))))
evaluated (negsuc n) = Ok (negsuc n)

-- and as a truth value: 1 for true, any other number below 2^32 for false
unfoldable pub decided : ℤ → Truth
decided (pos n) = cond (ltb n 4294967296) (Ok (eqb n 1)) (Err (fault (reason_numbered (n - 4294967296))))
decided (negsuc n) = Ok (eqb 0 1)

-- a number that is handed on: a value, or a reason
unfoldable pub is_code : ℤ → Bool
is_code z = in_range z || le_z (pos 4294967296) z

-- the fault of two results, the left before the right; where neither is one, the right result
unfoldable pub earlier : ℤ → ℤ → ℤ
earlier a b = cond (le_z (pos 4294967296) a) a b

-- a number that stands for the value of a tree in a memory, whatever names a code of these words is of
pub record ValueIn (words : List ℕ) (m : List ℤ) (a : Arith) (r : ℤ) : Type 0 where
  pub gives : (ns : List ℕ) → Loaded ns words m → T (arith_named ns a) → evaluated r ≡ value ns m a

-- and one that stands for the truth of a tree
pub record TruthIn (words : List ℕ) (m : List ℤ) (b : Boolean) (r : ℤ) : Type 0 where
  pub gives : (ns : List ℕ) → Loaded ns words m → T (boolean_named ns b) → decided r ≡ truth_in ns m b

-- the effect of an action
pub record EffectIn (words : List ℕ) (m : List ℤ) (x : Meaning) (r : Effect) : Type 0 where
  pub gives : (ns : List ℕ) → Loaded ns words m → T (meaning_named ns x) → r ≡ effect ns m x

-- whether an effect is defined, and the memory after it
pub record Follows (m : List ℤ) (x : Effect) (r : Bool) (m' : List ℤ) : Type 0 where
  pub defined : r ≡ is_defined x
  pub memory : m' ≡ after m x

-- and so of an action
pub record Performs (words : List ℕ) (m : List ℤ) (x : Meaning) (r : Bool) (m' : List ℤ) : Type 0 where
  pub gives : (ns : List ℕ) → Loaded ns words m → T (meaning_named ns x) → Follows m (effect ns m x) r m'

-- the place in array x by an index that was tested: none where it is a fault
unfoldable pub place_by : List ℕ → ℕ → ℤ → Place
place_by ns x r = cond (le_z (pos 4294967296) r) (nowhere (fault (reason_numbered (nat_abs r - 4294967296)))) (at (first_cell ns x + nat_abs r))

-- an index v of an array of a size, tested: a fault, or a number from 0 to below the size
pub record Indexed (size : ℕ) (v r : ℤ) : Type 0 where
  pub below : le_z (pos 4294967296) r ≡ false → T (non_neg r) × (nat_abs r < size)
  pub place : (ns : List ℕ) (x : ℕ) → get_or ns x 0 ≡ size → place_of ns x (evaluated v) ≡ place_by ns x r

-- the value of a tree as an index of array x, tested
pub record IndexIn (words : List ℕ) (m : List ℤ) (x : ℕ) (a : Arith) (r : ℤ) : Type 0 where
  pub below : le_z (pos 4294967296) r ≡ false → T (non_neg r) × (nat_abs r < 65536)
  pub place : (ns : List ℕ) → Loaded ns words m → T (is_array ns x) → T (arith_named ns a) → place_of ns x (value ns m a) ≡ place_by ns x r
