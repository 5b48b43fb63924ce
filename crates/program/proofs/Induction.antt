-- Induction from below, and the kinds one by one.
use Prim.Native.Nat.{ℕ, zero, suc, ◌≤◌, ◌<◌}
use native.Mathlib.Nat.{le_of_suc-le-suc, not-suc-le-zero}
use native.Mathlib.Omega.{arith}

-- what follows from the numbers below holds everywhere
pub from_below : (P : ℕ → Type 0) → ((n : ℕ) → ((m : ℕ) → m < n → P m) → P n) → (n : ℕ) → P n
from_below P step n = step n (below n)
  where
    below : (n m : ℕ) → m < n → P m
    below zero m h = absurd (not-suc-le-zero h)
    below (suc n) m h = step m (λ k l. below n k (omega arith))

-- the kinds 0 to 7, and any other
pub by_kind : (P : ℕ → Type 0) → P 0 → P 1 → P 2 → P 3 → P 4 → P 5 → P 6 → P 7 → ((k : ℕ) → P (suc (suc (suc (suc (suc (suc (suc (suc k))))))))) → (k : ℕ) → P k
by_kind P a b c d e f g h other zero = a
by_kind P a b c d e f g h other (suc zero) = b
by_kind P a b c d e f g h other (suc (suc zero)) = c
by_kind P a b c d e f g h other (suc (suc (suc zero))) = d
by_kind P a b c d e f g h other (suc (suc (suc (suc zero)))) = e
by_kind P a b c d e f g h other (suc (suc (suc (suc (suc zero))))) = f
by_kind P a b c d e f g h other (suc (suc (suc (suc (suc (suc zero)))))) = g
by_kind P a b c d e f g h other (suc (suc (suc (suc (suc (suc (suc zero))))))) = h
by_kind P a b c d e f g h other (suc (suc (suc (suc (suc (suc (suc (suc k)))))))) = other k

-- the kinds of commands, 0 to 9, and any other
pub by_command : (P : ℕ → Type 0) → P 0 → P 1 → P 2 → P 3 → P 4 → P 5 → P 6 → P 7 → P 8 → P 9 → ((k : ℕ) → P (suc (suc (suc (suc (suc (suc (suc (suc (suc (suc k))))))))))) → (k : ℕ) → P k
by_command P a b c d e f g h i j other = by_kind P a b c d e f g h last
  where
    last : (k : ℕ) → P (suc (suc (suc (suc (suc (suc (suc (suc k))))))))
    last zero = i
    last (suc zero) = j
    last (suc (suc k)) = other k

-- the kinds from 7, from 8 and from 10 on
pub from_seven : (P : ℕ → Type 0) → ((k : ℕ) → P (suc (suc (suc (suc (suc (suc (suc k)))))))) → (k : ℕ) → 7 ≤ k → P k
from_seven P f =
    by_kind (λ (k : ℕ). 7 ≤ k → P k)
    (λ h. absurd (omega arith)) (λ h. absurd (omega arith)) (λ h. absurd (omega arith)) (λ h. absurd (omega arith))
    (λ h. absurd (omega arith)) (λ h. absurd (omega arith)) (λ h. absurd (omega arith)) (λ h. f 0)
    (λ k h. f (suc k))

pub from_eight : (P : ℕ → Type 0) → ((k : ℕ) → P (suc (suc (suc (suc (suc (suc (suc (suc k))))))))) → (k : ℕ) → 8 ≤ k → P k
from_eight P f zero h = absurd (omega arith)
from_eight P f (suc k) h = from_seven (λ (n : ℕ). P (suc n)) f k (le_of_suc-le-suc h)

pub from_ten : (P : ℕ → Type 0) → ((k : ℕ) → P (suc (suc (suc (suc (suc (suc (suc (suc (suc (suc k))))))))))) → (k : ℕ) → 10 ≤ k → P k
from_ten P f zero h = absurd (omega arith)
from_ten P f (suc zero) h = absurd (omega arith)
from_ten P f (suc (suc k)) h = from_eight (λ (n : ℕ). P (suc (suc n))) f k (omega arith)
