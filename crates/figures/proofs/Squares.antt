-- Sums and squares: the square of a sum is at most the number times the sum of the squares, of a list and of two classes joined.
use Prim.Native.Nat.{ℕ, zero, suc, ◌+◌, ◌*◌, ◌-◌, ◌≤◌}
use mathlib.Core.Path.{◌≡◌, refl, sym, ◌∙◌}
use mathlib.Core.Bool.{Bool, true, false, cond, false≢true}
use mathlib.Core.List.{List, [], ◌∷◌, map}
use native.Mathlib.Decide.{dec_le}
use native.Mathlib.Nat.{mul-add, add-mul, mul_comm, mul-suc, suc-mul, zero-mul, le_dest, mul-le-mul, mul-mul-mul_comm, le_trans}
use native.Mathlib.Omega.{arith}
use borrow.Author.Tests.{ltb-true, ltb-false, leb-true, lt-leb, le-leb}
use lib.Dec.{leb, ltb, leb-zero}
use lib.IntN.{ℤ, pos, negsuc, nat_abs, ◌+ℤ◌, ◌-ℤ◌}
use lib.ListN.{length}
use lib.Signed.{le_z}
use Rattle.signs.proofs.Signed as Signed
use Rattle.figures.specs.Totals.{class, sum_of, square, totals, joined, spread}
use Rattle.figures.specs.declared.Totals.{Totals}

-- ---- Naturals

-- the square of a sum of two
squared : (x y : ℕ) → (x + y) * (x + y) ≡ x * x + x * y + (x * y + y * y)
squared x y = rw (add-mul x y (x + y), mul-add x x y, mul-add y x y, mul_comm y x)

-- twice a product is at most the two squares
twice : (x y : ℕ) → 2 * (x * y) ≤ x * x + y * y
twice x y = elim (dec_le x y) [ yes h ↦ ordered x y h | no h ↦ rw (mul_comm x y) (omega (arith, ordered y x (omega arith))) ]
  where
    ordered : (x y : ℕ) → x ≤ y → 2 * (x * y) ≤ x * x + y * y
    ordered x y h =
        let more = le_dest h in
        rw (← more.1, squared x more.0, mul-add x x more.0) (omega arith)

-- a number whose square is at most a product is at most the mean of the factors
between : (w x y : ℕ) → w * w ≤ x * y → 2 * w ≤ x + y
between w x y h = elim (dec_le (2 * w) (x + y)) [ yes le ↦ le | no more ↦ absurd (never (omega arith)) ]
  where
    never : suc (x + y) ≤ 2 * w → ⊥
    never l =
        let n = x + y in
        let more : n * n + n + suc n ≤ 2 * 2 * (w * w) = rw (suc-mul n (suc n), mul-suc n n, mul-mul-mul_comm 2 w 2 w) at (mul-le-mul l l) in
        omega (arith, twice x y, squared x y)

-- ---- Lists

-- the sum of the magnitudes, and of their squares
size : List ℤ → ℕ
size [] = 0
size (x ∷ xs) = nat_abs x + size xs

area : List ℤ → ℕ
area [] = 0
area (x ∷ xs) = nat_abs x * nat_abs x + area xs

-- each number against one more: twice the products are at most all the squares
against : (xs : List ℤ) (y : ℕ) → 2 * (size xs * y) ≤ length xs * (y * y) + area xs
unfolding size area
against [] y = rw (zero-mul y) (omega arith)
against (x ∷ xs) y =
    rw (add-mul (nat_abs x) (size xs) y, suc-mul (length xs) (y * y)) (omega (arith, twice (nat_abs x) y, against xs y))

-- the square of the sum is at most the number times the sum of the squares
sizes : (xs : List ℤ) → size xs * size xs ≤ length xs * area xs
unfolding size area
sizes [] = omega arith
sizes (x ∷ xs) =
    let n = nat_abs x in
    rw (squared n (size xs), suc-mul (length xs) (n * n + area xs), mul-add (length xs) (n * n) (area xs), mul_comm n (size xs))
    (omega (arith, sizes xs, against xs n))

sum_size : (xs : List ℤ) → nat_abs (sum_of xs) ≤ size xs
unfolding sum_of size
sum_size [] = omega arith
sum_size (x ∷ xs) = omega (arith, Signed.sum x (sum_of xs), sum_size xs)

squares_area : (xs : List ℤ) → sum_of (map square xs) ≡ pos (area xs)
unfolding sum_of area
squares_area [] = refl
squares_area (x ∷ xs) = rw (square_is x, squares_area xs)
  where
    square_is : (x : ℤ) → square x ≡ pos (nat_abs x * nat_abs x)
    square_is (pos n) = refl
    square_is (negsuc n) = refl

-- ---- The spread

-- a difference is not below zero where what is taken away is no more
left_over : (a b : ℕ) → le_z (pos 0) (pos a -ℤ pos b) ≡ leb b a
left_over a zero = leb-zero (a + 0) ∙ sym (leb-zero a)
left_over a (suc b) = go (ltb a (suc b)) refl
  where
    go : (t : Bool) → ltb a (suc b) ≡ t → le_z (pos 0) (cond t (negsuc (suc b - suc a)) (pos (a - suc b))) ≡ leb (suc b) a
    go true e = sym (lt-leb (suc b) a (ltb-true a (suc b) e))
    go false e = leb-zero (a - suc b) ∙ sym (le-leb (suc b) a (ltb-false a (suc b) e))

-- the spread of totals, by magnitudes
spread_by : (n q : ℕ) (z : ℤ) → le_z (pos 0) (spread (class n z (pos q))) ≡ leb (nat_abs z * nat_abs z) (n * q)
unfolding spread
spread_by n q (pos s) = left_over (n * q) (s * s)
spread_by n q (negsuc s) = left_over (n * q) (suc s * suc s)

-- the sum of a list's squares is never below zero, and neither is its spread
pub list_squares : (marks : List ℤ) → le_z (pos 0) (sum_of (map square marks)) ≡ true
list_squares marks = rw (squares_area marks) (leb-zero (area marks))

pub list_spread : (marks : List ℤ) → le_z (pos 0) (spread (totals marks)) ≡ true
unfolding totals
list_spread marks =
    rw (squares_area marks, spread_by (length marks) (area marks) (sum_of marks))
    (le-leb _ _ (le_trans (mul-le-mul (sum_size marks) (sum_size marks)) (sizes marks)))

-- nor is that of two classes joined, of which neither's is
classes : (n m p q u v : ℕ) → u * u ≤ n * p → v * v ≤ m * q → (u + v) * (u + v) ≤ (n + m) * (p + q)
classes n m p q u v h k =
    let cross : u * v * (u * v) ≤ n * q * (m * p) =
    rw (mul-mul-mul_comm u v u v, mul-mul-mul_comm n q m p, mul_comm q p, ← mul-mul-mul_comm n p m q) (mul-le-mul h k) in
    rw (squared u v, add-mul n m (p + q), mul-add n p q, mul-add m p q) (omega (arith, between (u * v) (n * q) (m * p) cross))

both_spread : (n m : ℕ) (s t p q : ℤ) → le_z (pos 0) p ≡ true → le_z (pos 0) q ≡ true
    → le_z (pos 0) (spread (class n s p)) ≡ true
    → le_z (pos 0) (spread (class m t q)) ≡ true
    → le_z (pos 0) (spread (class (n + m) (s +ℤ t) (p +ℤ q))) ≡ true
both_spread n m s t (negsuc p) q hp hq x y = absurd (false≢true hp)
both_spread n m s t (pos p) (negsuc q) hp hq x y = absurd (false≢true hq)
both_spread n m s t (pos p) (pos q) hp hq x y =
    let first = leb-true (nat_abs s * nat_abs s) (n * p) (sym (spread_by n p s) ∙ x) in
    let second = leb-true (nat_abs t * nat_abs t) (m * q) (sym (spread_by m q t) ∙ y) in
    spread_by (n + m) (p + q) (s +ℤ t)
    ∙ le-leb _ _ (le_trans (mul-le-mul (Signed.sum s t) (Signed.sum s t)) (classes n m p q (nat_abs s) (nat_abs t) first second))

pub joined_spread : (a b : Totals) → le_z (pos 0) a.squares ≡ true → le_z (pos 0) b.squares ≡ true
    → le_z (pos 0) (spread a) ≡ true → le_z (pos 0) (spread b) ≡ true → le_z (pos 0) (spread (joined a b)) ≡ true
unfolding joined
joined_spread a b = both_spread a.count b.count a.sum b.sum a.squares b.squares
