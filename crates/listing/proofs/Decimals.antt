-- The decimal digits of a number: that those of `digits::decimal` are these, and how many there are.
use mathlib.Core.Path.{◌≡◌, refl, sym, ap, subst, ◌∙◌}
use mathlib.Core.Bool.{Bool, true, false, cond}
use Prim.Native.Nat.{ℕ, zero, suc, ◌-◌, ◌/◌, ◌^◌, ◌≤◌, ◌<◌}
use native.Mathlib.Nat.{pow-zero, pow-suc}
use native.Mathlib.Omega.{arith}
use borrow.Author.Tests.{ltb-false, lt-ltb, le-ltb}
use lib.Dec.{ltb}
use lib.ListN.{length, length-append}
use Rattle.listing.specs.Digits.{last_digits, IsDigitCount}
use Rattle.listing.specs.Text.{places_up_to, decimal}

power_some : (k : ℕ) → 1 ≤ 10 ^ k
power_some zero = omega arith
power_some (suc k) = rw (pow-suc 10 k) (omega (arith, power_some k))

one_less : (q : ℕ) → suc q - 1 ≡ q
one_less q = omega arith

-- the fewest digits that hold a number are as many as are counted
places_fewest : (more n r : ℕ) → n < 10 ^ suc more → IsDigitCount 10 1 n r → r ≡ places_up_to more n
unfolding places_up_to
places_fewest more n zero h f = absurd (omega (arith, f.0))
places_fewest zero n (suc zero) h f = refl
places_fewest zero n (suc (suc q)) h f =
    let least : 10 ^ suc q ≤ n = subst (λ k. 10 ^ k ≤ n) (one_less (suc q)) (f.2 (omega arith)) in
    absurd (omega (arith, pow-suc 10 q, power_some q, pow-suc 10 0, pow-zero 10))
places_fewest (suc more) n (suc zero) h f = rw (lt-ltb n 10 (omega (arith, f.1)))
places_fewest (suc more) n (suc (suc q)) h f =
    let least : 10 ^ suc q ≤ n = subst (λ k. 10 ^ k ≤ n) (one_less (suc q)) (f.2 (omega arith)) in
    rw (le-ltb n 10 (omega (arith, pow-suc 10 q, power_some q)))
    (ap suc
    (places_fewest more (n / 10) (suc q) (omega (arith, pow-suc 10 (suc more)))
    (omega arith, omega (arith, f.1, pow-suc 10 (suc q)), λ l. subst (λ k. 10 ^ k ≤ n / 10) (sym (one_less q)) (omega (arith, pow-suc 10 q)))))

pub decimal_told : (n r : ℕ) → n < 18446744073709551616 → IsDigitCount 10 1 n r → last_digits 10 r n ≡ decimal n
unfolding decimal
decimal_told n r h f = ap (λ k. last_digits 10 k n) (places_fewest 19 n r (omega arith) f)

-- as many as are counted
digits_length : (b k n : ℕ) → length (last_digits b k n) ≡ k
digits_length b zero n = refl
digits_length b (suc k) n = length-append (last_digits b k (n / b)) _ ∙ rw (digits_length b k (n / b)) (omega arith)

places_most : (more n k : ℕ) → n < 10 ^ suc k → places_up_to more n ≤ suc k
unfolding places_up_to
places_most zero n k h = omega arith
places_most (suc more) n k h = by (ltb n 10) refl k h (λ k l. places_most more (n / 10) k l)
  where
    by : (b : Bool) → ltb n 10 ≡ b → (k : ℕ) → n < 10 ^ suc k → ((k : ℕ) → n / 10 < 10 ^ suc k → places_up_to more (n / 10) ≤ suc k)
        → cond b 1 (suc (places_up_to more (n / 10))) ≤ suc k
    by true e k h below = omega arith
    by false e zero h below = absurd (omega (arith, ltb-false n 10 e))
    by false e (suc k) h below = omega (arith, below k (omega (arith, pow-suc 10 (suc k))))

places_at_most : (more n : ℕ) → places_up_to more n ≤ suc more
unfolding places_up_to
places_at_most zero n = omega arith
places_at_most (suc more) n = by (ltb n 10) (places_at_most more (n / 10))
  where
    by : (b : Bool) → places_up_to more (n / 10) ≤ suc more → cond b 1 (suc (places_up_to more (n / 10))) ≤ suc (suc more)
    by true below = omega arith
    by false below = omega arith

-- at most 20; at most k where it is below ten to the k
pub decimal_short : (n : ℕ) → length (decimal n) ≤ 20
unfolding decimal
decimal_short n = rw (digits_length 10 (places_up_to 19 n) n) (places_at_most 19 n)

pub decimal_below : (n k : ℕ) → n < 10 ^ suc k → length (decimal n) ≤ suc k
unfolding decimal
decimal_below n k h = rw (digits_length 10 (places_up_to 19 n) n) (places_most 19 n k h)
