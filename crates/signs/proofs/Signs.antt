-- What the proofs of `sets` need of the definitions.
use mathlib.Core.Path.{◌≡◌, refl}
use mathlib.Core.Bool.{true, false, true≢false}
use Prim.Native.Nat.{zero, suc, ◌<◌}
use native.Mathlib.Omega.{arith}
use borrow.Author.Tests.{ltb-true, ltb-false}
use lib.Dec.{lit<}
use lib.IntN.{ℤ, pos, negsuc}
use lib.Signed.{lt_z}
use Rattle.signs.specs.Sign.{single, sign_of}
use Rattle.signs.specs.declared.Sign.{Sign}
use Rattle.signs.specs.declared.Sign.TheVariants.{Minus, Zero, Plus}

pub single_positive : (s : Sign) → 0 < single s
unfolding single
single_positive Minus = lit< tt
single_positive Zero = lit< tt
single_positive Plus = lit< tt

-- the sign by the two tests against 0
pub minus : (z : ℤ) → lt_z z (pos 0) ≡ true → Minus ≡ sign_of z
unfolding sign_of
minus (pos n) e = absurd (omega (arith, ltb-true n 0 e))
minus (negsuc n) e = refl

pub plus : (z : ℤ) → lt_z (pos 0) z ≡ true → Plus ≡ sign_of z
unfolding sign_of
plus (pos zero) e = absurd (omega (arith, ltb-true 0 0 e))
plus (pos (suc n)) e = refl
plus (negsuc n) e = absurd (omega (arith, ltb-true 0 0 e))

pub neither : (z : ℤ) → lt_z z (pos 0) ≡ false → lt_z (pos 0) z ≡ false → Zero ≡ sign_of z
unfolding sign_of
neither (pos zero) e f = refl
neither (pos (suc n)) e f = absurd (omega (arith, ltb-false 0 (suc n) f))
neither (negsuc n) e f = absurd (true≢false e)
