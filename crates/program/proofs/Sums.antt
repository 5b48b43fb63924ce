-- Sums over 0, 1, … n - 1, and what they weigh.
use mathlib.Core.Path.{◌≡◌, refl, sym, ap}
use mathlib.Core.Bool.{cond}
use Prim.Native.Nat.{ℕ, zero, suc, ◌+◌, ◌*◌, ◌≤◌, ◌<◌}
use native.Mathlib.Nat.{zero-mul, one-mul, add-mul}
use native.Mathlib.Omega.{arith}
use native.Mathlib.Decide.{ℕ_discrete}
use lib.Dec.{eqb}
use borrow.Author.Tests.{eq-eqb, ne_eqb}

-- f 0 + f 1 + … + f (n - 1)
unfoldable pub total : (ℕ → ℕ) → ℕ → ℕ
total f zero = 0
total f (suc n) = total f n + f n

pub total_same : (f g : ℕ → ℕ) (n : ℕ) → ((i : ℕ) → i < n → f i ≡ g i) → total f n ≡ total g n
unfolding total
total_same f g zero h = refl
total_same f g (suc n) h = omega (arith, total_same f g n (λ i l. h i (omega arith)), h n (omega arith))

pub total_zero : (f : ℕ → ℕ) (n : ℕ) → ((i : ℕ) → i < n → f i ≡ 0) → total f n ≡ 0
unfolding total
total_zero f zero h = refl
total_zero f (suc n) h = omega (arith, total_zero f n (λ i l. h i (omega arith)), h n (omega arith))

pub total_one_more : (f : ℕ → ℕ) (n : ℕ) → total (λ i. 1 + f i) n ≡ n + total f n
unfolding total
total_one_more f zero = refl
total_one_more f (suc n) = omega (arith, total_one_more f n)

pub total_add : (f g : ℕ → ℕ) (n : ℕ) → total (λ i. f i + g i) n ≡ total f n + total g n
unfolding total
total_add f g zero = refl
total_add f g (suc n) = omega (arith, total_add f g n)

pub total_mul : (f : ℕ → ℕ) (w n : ℕ) → total (λ i. f i * w) n ≡ total f n * w
unfolding total
total_mul f w zero = sym (zero-mul w)
total_mul f w (suc n) = rw (add-mul, total_mul f w n)

-- rows first or columns first
pub exchange : (f : ℕ → ℕ → ℕ) (n m : ℕ) → total (λ i. total (f i) m) n ≡ total (λ j. total (λ i. f i j) n) m
unfolding total
exchange f zero m = sym (total_zero _ m (λ i h. refl))
exchange f (suc n) m = omega (arith, exchange f n m, total_add (λ j. total (λ i. f i j) n) (f n) m)

-- counted at x alone, a weight counts once, and not before
not_before : (w : ℕ → ℕ) (x n : ℕ) → n ≤ x → total (λ r. cond (eqb x r) 1 0 * w r) n ≡ 0
not_before w x n h = total_zero _ n (λ i l. rw (ne_eqb x i (omega arith)) (zero-mul (w i)))

pub once : (w : ℕ → ℕ) (x n : ℕ) → x < n → total (λ r. cond (eqb x r) 1 0 * w r) n ≡ w x
unfolding total
once w x zero h = absurd (omega arith)
once w x (suc n) h =
    elim (ℕ_discrete x n) [
      | yes p ↦ rw (eq-eqb x n p, one-mul) (omega (arith, not_before w x n (omega arith), ap w p))
      | no f ↦ rw (ne_eqb x n f, zero-mul) (omega (arith, once w x n (omega arith)))
    ]
