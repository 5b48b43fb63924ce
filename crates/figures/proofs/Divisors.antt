-- Euclid's algorithm gives the greatest common divisor: it divides both numbers, and every common divisor divides it.
use Prim.Native.Nat.{ℕ, zero, suc, ◌-◌, ◌*◌, ◌/◌, ◌%◌, ◌≤◌, ◌<◌, ◌∣◌}
use mathlib.Core.Path.{◌≡◌, refl, ap, ◌∙◌}
use native.Mathlib.Nat.{zero-lt-suc, zero-mul, one-mul, mul_comm, mul_assoc, mul-pos, mul-sub, mod-lt, mod_def, mul-div-mul_right, div-mul_cancel, dvd_refl, dvd-zero, dvd-mul_right, dvd-mod_iff, pos_of_dvd_of_pos, mul-dvd-mul_right, dvd_of_mul-dvd-mul_right, eq-one_of_dvd-one}
use native.Mathlib.Omega.{arith}
use Rattle.figures.specs.Fraction.{euclid, gcd}

-- the remainder is lower, so that one step less is enough for it
left : {n : ℕ} (a b : ℕ) → suc b ≤ suc n → a % suc b ≤ n
left a b h = omega (arith, mod-lt a (zero-lt-suc b))

-- as many steps as the second number counts are enough, and more give the same
enough : (m n a b : ℕ) → b ≤ m → b ≤ n → euclid m a b ≡ euclid n a b
unfolding euclid
enough zero zero a b h k = refl
enough zero (suc n) a zero h k = refl
enough zero (suc n) a (suc b) h k = absurd (omega arith)
enough (suc m) zero a zero h k = refl
enough (suc m) zero a (suc b) h k = absurd (omega arith)
enough (suc m) (suc n) a zero h k = refl
enough (suc m) (suc n) a (suc b) h k = enough m n (suc b) (a % suc b) (left a b h) (left a b k)

pub gcd_zero : (a : ℕ) → gcd a 0 ≡ a
unfolding gcd euclid
gcd_zero a = refl

-- one step of the algorithm
pub gcd_step : (a b : ℕ) → 0 < b → gcd a b ≡ gcd b (a % b)
unfolding gcd euclid
gcd_step a zero h = absurd (omega arith)
gcd_step a (suc b) h = enough b (a % suc b) (suc b) (a % suc b) (omega (arith, mod-lt a (zero-lt-suc b))) (omega arith)

-- it divides both
both : (n a b : ℕ) → b ≤ n → (euclid n a b ∣ a) × (euclid n a b ∣ b)
unfolding euclid
both zero a zero h = (dvd_refl a, dvd-zero a)
both zero a (suc b) h = absurd (omega arith)
both (suc n) a zero h = (dvd_refl a, dvd-zero a)
both (suc n) a (suc b) h =
    let below = both n (suc b) (a % suc b) (left a b h) in
    ((dvd-mod_iff (euclid n (suc b) (a % suc b)) {m = a} below.0).0 below.1, below.0)

-- and whatever divides both divides it
greatest : (n a b k : ℕ) → b ≤ n → k ∣ a → k ∣ b → k ∣ euclid n a b
unfolding euclid
greatest zero a b k h ka kb = ka
greatest (suc n) a zero k h ka kb = ka
greatest (suc n) a (suc b) k h ka kb = greatest n (suc b) (a % suc b) k (left a b h) kb ((dvd-mod_iff k {m = a} kb).1 ka)

module _ (a b : ℕ) where
  pub gcd_left : gcd a b ∣ a
  unfolding gcd
  gcd_left = (both b a b (omega arith)).0

  pub gcd_right : gcd a b ∣ b
  unfolding gcd
  gcd_right = (both b a b (omega arith)).1

  pub gcd_greatest : (k : ℕ) → k ∣ a → k ∣ b → k ∣ gcd a b
  unfolding gcd
  gcd_greatest k = greatest b a b k (omega arith)

  pub gcd_some : 0 < b → 0 < gcd a b
  gcd_some h = pos_of_dvd_of_pos gcd_right h

  -- divided by it, the two have no common divisor but 1
  pub coprime : 0 < b → (k : ℕ) → k ∣ a / gcd a b → k ∣ b / gcd a b → k ≡ 1
  coprime h k ka kb =
      let g = gcd a b in
      let scaled : (n : ℕ) → g ∣ n → k ∣ n / g → k * g ∣ n = λ n gn kn. rw (div-mul_cancel g gn) at (mul-dvd-mul_right k kn g) in
      let most : k * g ∣ 1 * g = rw one-mul (gcd_greatest (k * g) (scaled a gcd_left ka) (scaled b gcd_right kb)) in
      eq-one_of_dvd-one (dvd_of_mul-dvd-mul_right k (gcd_some h) most)

-- ---- Multiples

-- the remainder of multiples, and their greatest common divisor
remainder_scaled : (a b c : ℕ) → 0 < c → a * c % (b * c) ≡ a % b * c
remainder_scaled a b c h =
    rw (mod_def (a * c) (b * c), mul-div-mul_right a b h, mod_def a b, mul_comm (a - b * (a / b)) c, mul-sub c a (b * (a / b)), mul_comm a c, mul_comm b c, mul_assoc c b (a / b))

scaled : (n a b c : ℕ) → 0 < c → b ≤ n → gcd (a * c) (b * c) ≡ euclid n a b * c
unfolding euclid
scaled zero a zero c h k = rw (zero-mul c) (gcd_zero (a * c))
scaled zero a (suc b) c h k = absurd (omega arith)
scaled (suc n) a zero c h k = rw (zero-mul c) (gcd_zero (a * c))
scaled (suc n) a (suc b) c h k =
    gcd_step (a * c) (suc b * c) (mul-pos (zero-lt-suc b) h)
    ∙ ap (gcd (suc b * c)) (remainder_scaled a (suc b) c h)
    ∙ scaled n (suc b) (a % suc b) c h (left a b k)

-- a number that divides a product, and has no divisor in common with one factor but 1, divides the other factor
pub divides_other : (m n c : ℕ) → ((k : ℕ) → k ∣ m → k ∣ n → k ≡ 1) → m ∣ n * c → m ∣ c
unfolding gcd
divides_other m n zero apart h = dvd-zero m
divides_other m n (suc c) apart h =
    let one : gcd n m ≡ 1 = apart (gcd n m) (gcd_right n m) (gcd_left n m) in
    let all : gcd (n * suc c) (m * suc c) ≡ suc c = scaled m n m (suc c) (zero-lt-suc c) (omega arith) ∙ ap (λ g. g * suc c) one ∙ one-mul (suc c) in
    rw all at (gcd_greatest (n * suc c) (m * suc c) m h (dvd-mul_right m (suc c)))
