-- The signs of exact results, by the signs of the sides: each operator's results have signs of its grid.
use mathlib.Core.Path.{◌≡◌, refl, sym}
use mathlib.Core.Bool.{Bool, true, false, cond}
use Prim.Native.Nat.{ℕ, zero, suc, ◌+◌, ◌*◌, ◌/◌, ◌%◌, ◌^◌, ◌<◌}
use native.Mathlib.Nat.{zero-div, zero-lt-suc, one-le-mul, one-le-pow}
use native.Mathlib.Omega.{arith}
use lib.Dec.{T, eqb, eqb→eq}
use lib.IntN.{ℤ, pos, negsuc, neg_ℤ, ◌+ℤ◌, ◌-ℤ◌, ◌*ℤ◌, +ℤ_idl, +ℤ_idr, zero-*ℤ, *ℤ-zero}
use lib.Signed.{quot_z}
use Rattle.signs.specs.Grid.{grid}
use Rattle.signs.specs.Number.{power, equal, exact, quotient, raised, apply}
use Rattle.signs.specs.Sign.{has, sign_of}
use Rattle.signs.specs.declared.Operator.{Operator}
use Rattle.signs.specs.declared.Operator.TheVariants.{Add, Sub, Mul, Div, Pow}
use Rattle.signs.specs.declared.Reason.{Reason}
use Rattle.signs.specs.declared.Reason.TheVariants.{DivisorZero, ExponentNegative}
use Rattle.signs.specs.declared.Sign.{Sign}
use Rattle.signs.specs.declared.Sign.TheVariants.{Minus, Zero, Plus}
use Rattle.std.specs.Prelude.{Ok, Err}
use Rattle.signs.proofs.Finite.{every_sign, at_sign}
use Rattle.signs.proofs.Open.{definitions}
use Rattle.signs.proofs.Power.{power_zero, zero_pow}
use Rattle.signs.proofs.Range.{exact_number}

positive : (n : ℕ) → 0 < n → sign_of (pos n) ≡ Plus
unfolding sign_of
positive zero h = absurd (omega arith)
positive (suc n) h = refl

negative : (n : ℕ) → 0 < n → sign_of (neg_ℤ (pos n)) ≡ Minus
unfolding sign_of
negative zero h = absurd (omega arith)
negative (suc n) h = refl

-- the grid's set for two signs has a result's sign
abbrev Right : Operator → Sign → Sign → ℤ → Type 0
Right o l r z = T (has (grid o l r) (sign_of z))

sum : (a b : ℤ) → Right Add (sign_of a) (sign_of b) (a +ℤ b)
unfolding definitions
sum (pos zero) b = rw (+ℤ_idl b) (at_sign (λ s. has (grid Add Zero s) s) tt (sign_of b))
sum (pos (suc a)) (pos zero) = rw (+ℤ_idr (pos (suc a))) tt
sum (negsuc a) (pos zero) = rw (+ℤ_idr (negsuc a)) tt
sum (pos (suc a)) (pos (suc b)) = rw (positive (suc a + suc b) (omega arith)) tt
sum (pos (suc a)) (negsuc b) = at_sign (has 7) tt (sign_of (pos (suc a) +ℤ negsuc b))
sum (negsuc a) (pos (suc b)) = at_sign (has 7) tt (sign_of (negsuc a +ℤ pos (suc b)))
sum (negsuc a) (negsuc b) = tt

-- a difference is a sum with the opposite, in the grids too
opposite : Sign → Sign
opposite Minus = Plus
opposite Zero = Zero
opposite Plus = Minus

sign_opposite : (z : ℤ) → sign_of (neg_ℤ z) ≡ opposite (sign_of z)
unfolding sign_of opposite
sign_opposite (pos zero) = refl
sign_opposite (pos (suc n)) = refl
sign_opposite (negsuc n) = refl

grid_opposite : (l r : Sign) → grid Add l (opposite r) ≡ grid Sub l r
unfolding definitions opposite
grid_opposite l r =
    eqb→eq (grid Add l (opposite r)) (grid Sub l r)
    (at_sign (λ r. eqb (grid Add l (opposite r)) (grid Sub l r)) (at_sign (λ l. every_sign (λ r. eqb (grid Add l (opposite r)) (grid Sub l r))) tt l) r)

difference : (a b : ℤ) → Right Sub (sign_of a) (sign_of b) (a -ℤ b)
difference a b = rw (sym (grid_opposite (sign_of a) (sign_of b)), sym (sign_opposite b)) (sum a (neg_ℤ b))

product : (a b : ℤ) → Right Mul (sign_of a) (sign_of b) (a *ℤ b)
unfolding definitions
product (pos zero) b = rw (zero-*ℤ b) (at_sign (λ s. has (grid Mul Zero s) Zero) tt (sign_of b))
product (pos (suc a)) (pos zero) = rw (*ℤ-zero (pos (suc a))) tt
product (negsuc a) (pos zero) = rw (*ℤ-zero (negsuc a)) tt
product (pos (suc a)) (pos (suc b)) = rw (positive (suc a * suc b) (one-le-mul (zero-lt-suc a) (zero-lt-suc b))) tt
product (pos (suc a)) (negsuc b) = rw (negative (suc a * suc b) (one-le-mul (zero-lt-suc a) (zero-lt-suc b))) tt
product (negsuc a) (pos (suc b)) = rw (negative (suc a * suc b) (one-le-mul (zero-lt-suc a) (zero-lt-suc b))) tt
product (negsuc a) (negsuc b) = rw (positive (suc a * suc b) (one-le-mul (zero-lt-suc a) (zero-lt-suc b))) tt

-- a quotient of like signs is zero or plus, of unlike signs minus or zero
upward : (n : ℕ) → T (has 6 (sign_of (pos n)))
unfolding definitions
upward zero = tt
upward (suc n) = tt

downward : (n : ℕ) → T (has 3 (sign_of (neg_ℤ (pos n))))
unfolding definitions
downward zero = tt
downward (suc n) = tt

-- a value is never both
never : {X : Type 0} (z : ℤ) (r : Reason) → Err r ≡ Ok z → X
never z r e = let no : ◌≡◌ {A = ℕ} 0 1 = cc in absurd (omega arith)

-- a quotient that has a value is one by a divisor other than 0
divided : (a b z : ℤ) → quotient a b ≡ Ok z → quot_z a b ≡ z
unfolding quotient
divided a b z e = go (equal b (pos 0)) e
  where
    go : (t : Bool) → cond t (Err DivisorZero) (exact (quot_z a b)) ≡ Ok z → quot_z a b ≡ z
    go true e = never z DivisorZero e
    go false e = (exact_number (quot_z a b) z e).1

quotients : (a b : ℤ) {z : ℤ} → quotient a b ≡ Ok z → Right Div (sign_of a) (sign_of b) (quot_z a b)
unfolding definitions
quotients a (pos zero) {z} e = never z DivisorZero e
quotients (pos zero) (pos (suc b)) e = rw (zero-div (suc b)) tt
quotients (pos zero) (negsuc b) e = rw (zero-div (suc b)) tt
quotients (pos (suc a)) (pos (suc b)) e = upward (suc a / suc b)
quotients (pos (suc a)) (negsuc b) e = downward (suc a / suc b)
quotients (negsuc a) (pos (suc b)) e = downward (suc a / suc b)
quotients (negsuc a) (negsuc b) e = upward (suc a / suc b)

powers : (a : ℤ) (n : ℕ) → Right Pow (sign_of a) (sign_of (pos n)) (power a n)
unfolding definitions
powers a zero = rw (power_zero a) (at_sign (λ s. has (grid Pow s Zero) Plus) tt (sign_of a))
powers (pos zero) (suc n) = rw (zero_pow (suc n) (zero-lt-suc n)) tt
powers (pos (suc a)) (suc n) = rw (positive (suc a ^ suc n) (one-le-pow (suc n) (suc a) (zero-lt-suc a))) tt
powers (negsuc a) (suc n) = go (eqb (suc n % 2) 0)
  where
    more : 0 < suc a ^ suc n
    more = one-le-pow (suc n) (suc a) (zero-lt-suc a)

    go : (b : Bool) → T (has 5 (sign_of (cond b (pos (suc a ^ suc n)) (neg_ℤ (pos (suc a ^ suc n))))))
    go true = rw (positive (suc a ^ suc n) more) tt
    go false = rw (negative (suc a ^ suc n) more) tt

-- where an operator on two numbers has a value, the grid's set for their signs has its sign
pub sound : (o : Operator) (a b z : ℤ) → apply o a b ≡ Ok z → T (has (grid o (sign_of a) (sign_of b)) (sign_of z))
unfolding apply raised
sound Add a b z e = rw (sym (exact_number (a +ℤ b) z e).1) (sum a b)
sound Sub a b z e = rw (sym (exact_number (a -ℤ b) z e).1) (difference a b)
sound Mul a b z e = rw (sym (exact_number (a *ℤ b) z e).1) (product a b)
sound Div a b z e = rw (sym (divided a b z e)) (quotients a b e)
sound Pow a (pos n) z e = rw (sym (exact_number (power a n) z e).1) (powers a n)
sound Pow a (negsuc n) z e = never z ExponentNegative e
