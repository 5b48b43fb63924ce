-- A fact of every sign, operator, comparison, set or truth value is one test that antt computes, and here is the law that gives it at each of them.
use mathlib.Core.Path.{◌≡◌, refl, subst}
use mathlib.Core.Bool.{Bool, true, false, ◌&&◌, beq}
use Prim.Native.Nat.{ℕ, zero, suc, ◌%◌, ◌<◌}
use native.Mathlib.Nat.{not-suc-le-zero, mod-lt}
use native.Mathlib.Omega.{arith}
use lib.Dec.{T, ltb, ltb→lt, lit<}
use borrow.Author.Tests.{ltb-true, ltb-false}
use mir.Facts.{and_yes}
use Rattle.signs.specs.Grid.{grid_number, sign_number}
use Rattle.signs.specs.declared.Comparison.{Comparison}
use Rattle.signs.specs.declared.Comparison.TheVariants.{Equal, Greater, AtLeast}
use Rattle.signs.specs.declared.Operator.{Operator}
use Rattle.signs.specs.declared.Operator.TheVariants.{Add, Sub, Mul, Div, Pow}
use Rattle.signs.specs.declared.Sign.{Sign}
use Rattle.signs.specs.declared.Sign.TheVariants.{Minus, Zero, Plus}

abbrev pub every_sign : (Sign → Bool) → Bool
every_sign f = f Minus && (f Zero && f Plus)

pub at_sign : (f : Sign → Bool) → T (every_sign f) → (s : Sign) → T (f s)
at_sign f t Minus = (and_yes (f Minus) (f Zero && f Plus) t).0
at_sign f t Zero = (and_yes (f Zero) (f Plus) (and_yes (f Minus) (f Zero && f Plus) t).1).0
at_sign f t Plus = (and_yes (f Zero) (f Plus) (and_yes (f Minus) (f Zero && f Plus) t).1).1

abbrev pub every_comparison : (Comparison → Bool) → Bool
every_comparison f = f Equal && (f Greater && f AtLeast)

pub at_comparison : (f : Comparison → Bool) → T (every_comparison f) → (c : Comparison) → T (f c)
at_comparison f t Equal = (and_yes (f Equal) (f Greater && f AtLeast) t).0
at_comparison f t Greater = (and_yes (f Greater) (f AtLeast) (and_yes (f Equal) (f Greater && f AtLeast) t).1).0
at_comparison f t AtLeast = (and_yes (f Greater) (f AtLeast) (and_yes (f Equal) (f Greater && f AtLeast) t).1).1

abbrev pub every_operator : (Operator → Bool) → Bool
every_operator f = f Add && (f Sub && (f Mul && (f Div && f Pow)))

pub at_operator : (f : Operator → Bool) → T (every_operator f) → (o : Operator) → T (f o)
at_operator f t = go
  where
    rest : T (f Sub && (f Mul && (f Div && f Pow)))
    rest = (and_yes (f Add) (f Sub && (f Mul && (f Div && f Pow))) t).1

    rest2 : T (f Mul && (f Div && f Pow))
    rest2 = (and_yes (f Sub) (f Mul && (f Div && f Pow)) rest).1

    rest3 : T (f Div && f Pow)
    rest3 = (and_yes (f Mul) (f Div && f Pow) rest2).1

    go : (o : Operator) → T (f o)
    go Add = (and_yes (f Add) (f Sub && (f Mul && (f Div && f Pow))) t).0
    go Sub = (and_yes (f Sub) (f Mul && (f Div && f Pow)) rest).0
    go Mul = (and_yes (f Mul) (f Div && f Pow) rest2).0
    go Div = (and_yes (f Div) (f Pow) rest3).0
    go Pow = (and_yes (f Div) (f Pow) rest3).1

-- every number below n
abbrev pub every_below : ℕ → (ℕ → Bool) → Bool
every_below zero f = true
every_below (suc n) f = f n && every_below n f

pub at_below : (n : ℕ) (f : ℕ → Bool) → T (every_below n f) → (k : ℕ) → k < n → T (f k)
at_below zero f t k h = absurd (not-suc-le-zero h)
at_below (suc n) f t k h = go (λ t' h'. at_below n f t' k h') (ltb k n) refl
  where
    go : (T (every_below n f) → k < n → T (f k)) → (b : Bool) → ltb k n ≡ b → T (f k)
    go below true e = below (and_yes (f n) (every_below n f) t).1 (ltb-true k n e)
    go below false e = let same : n ≡ k = omega (arith, ltb-false k n e) in subst (λ (m : ℕ). T (f m)) same (and_yes (f n) (every_below n f) t).0

-- a fact of two sets, where it is the same for their remainders by 8
pub at_sets : (f : ℕ → ℕ → Bool) → T (every_below 8 (λ a. every_below 8 (f a))) → (a b : ℕ) → T (f (a % 8) (b % 8))
at_sets f t a b = at_below 8 (f (a % 8)) (at_below 8 (λ a. every_below 8 (f a)) t (a % 8) (mod-lt a (lit< tt))) (b % 8) (mod-lt b (lit< tt))

abbrev pub every_bool : (Bool → Bool) → Bool
every_bool f = f true && f false

pub at_bool : (f : Bool → Bool) → T (every_bool f) → (b : Bool) → T (f b)
at_bool f t true = (and_yes (f true) (f false) t).0
at_bool f t false = (and_yes (f true) (f false) t).1

-- a test that two truth values are the same
pub beq_eq : (a b : Bool) → T (beq a b) → a ≡ b
beq_eq true true t = refl
beq_eq true false t = absurd t
beq_eq false true t = absurd t
beq_eq false false t = refl

-- the places in the grids
pub operator_below : (o : Operator) → grid_number o < 5
unfolding grid_number
operator_below o = ltb→lt (grid_number o) 5 (at_operator (λ p. ltb (grid_number p) 5) tt o)

pub sign_below : (s : Sign) → sign_number s < 3
unfolding sign_number
sign_below s = ltb→lt (sign_number s) 3 (at_sign (λ p. ltb (sign_number p) 3) tt s)
