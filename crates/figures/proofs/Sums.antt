-- Sums of lists: one number more, two lists together, how far a sum can go, and a running sum in 64 bits.
use Prim.Native.Nat.{ℕ, zero, suc, ◌*◌, ◌≤◌, ◌<◌}
use mathlib.Core.Path.{◌≡◌, sym, ap, ◌∙◌}
use mathlib.Core.List.{List, [], ◌∷◌, ◌++◌}
use native.Mathlib.Nat.{mul-suc, mul-le-mul_left}
use native.Mathlib.Omega.{arith}
use lib.IntN.{ℤ, pos, nat_abs, ◌+ℤ◌, +ℤ_idl, +ℤ_idr, +ℤ_assoc}
use lib.ListN.{length, take, get_or}
use lib.Seq.{take-suc}
use mir.Syntax.{w64}
use mir.Val.{SFits, to_z, of_z}
use mir.ValLaws.{to_z-of_z}
use Rattle.signs.proofs.Signed as Signed
use Rattle.figures.specs.Totals.{sum_of}

pub sum_append : (xs ys : List ℤ) → sum_of (xs ++ ys) ≡ sum_of xs +ℤ sum_of ys
unfolding sum_of
sum_append [] ys = sym (+ℤ_idl (sum_of ys))
sum_append (x ∷ xs) ys = ap (λ z. x +ℤ z) (sum_append xs ys) ∙ sym (+ℤ_assoc x (sum_of xs) (sum_of ys))

-- the first i + 1 numbers: the first i, and number i
sum_next : (xs : List ℤ) (i : ℕ) → i < length xs → sum_of (take (suc i) xs) ≡ sum_of (take i xs) +ℤ get_or xs i (pos 0)
unfolding sum_of
sum_next xs i h = ap sum_of (take-suc xs i (pos 0) h) ∙ sum_append (take i xs) (get_or xs i (pos 0) ∷ []) ∙ ap (λ z. sum_of (take i xs) +ℤ z) (+ℤ_idr (get_or xs i (pos 0)))

-- no number of a list is larger than m, either way
abbrev pub AtMost : ℕ → List ℤ → Type 0
AtMost m xs = (k : ℕ) → k < length xs → nat_abs (get_or xs k (pos 0)) ≤ m

-- then the sum of the first i is at most m for each
pub sum_most : (m : ℕ) (xs : List ℤ) → AtMost m xs → (i : ℕ) → i ≤ length xs → nat_abs (sum_of (take i xs)) ≤ m * i
unfolding sum_of
sum_most m xs most zero h = omega arith
sum_most m xs most (suc i) h =
    rw (sum_next xs i h, mul-suc m i)
    (omega (arith, Signed.sum (sum_of (take i xs)) (get_or xs i (pos 0)), sum_most m xs most i (omega arith), most i h))

-- a running sum, in 64 bits that hold m for each number of the list: one number more fits, and is read back
module _ (m : ℕ) (xs : List ℤ) (most : AtMost m xs) (room : m * length xs ≤ 4611686018427387904) (i : ℕ) (h : i < length xs) (s : ℕ) (e : to_z w64 s ≡ sum_of (take i xs)) where
  pub next_fits : SFits w64 (to_z w64 s +ℤ get_or xs i (pos 0))
  next_fits =
      rw (e, ← sum_next xs i h)
      (Signed.fits (sum_of (take (suc i) xs)) (omega (arith, sum_most m xs most (suc i) h, mul-le-mul_left m h)))

  pub next_read : to_z w64 (of_z w64 (to_z w64 s +ℤ get_or xs i (pos 0))) ≡ sum_of (take (suc i) xs)
  next_read = to_z-of_z w64 (to_z w64 s +ℤ get_or xs i (pos 0)) next_fits ∙ ap (λ z. z +ℤ get_or xs i (pos 0)) e ∙ sym (sum_next xs i h)
