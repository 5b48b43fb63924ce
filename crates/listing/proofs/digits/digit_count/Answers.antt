-- One more than the logarithm; 0 takes as many as 1.
use mathlib.Core.Path.{◌≡◌, subst}
use native.Mathlib.Nat.{pow-zero, pow-suc, pow-le-pow_right}
use native.Mathlib.Numerals.{add-one}
use native.Mathlib.Omega.{arith}
use Prim.Native.Nat.{◌+◌, ◌-◌, ◌^◌, ◌≤◌}
use Rattle.listing.proofs.digits.digit_count.Goals as goal

pub returns : goal.returns
returns c =
    let r = c.ilog10.result in
    let one_less : r ≡ r + 1 - 1 = omega arith in (
      omega arith,
      rw (add-one, pow-suc) (omega arith),
      λ more.
          let some : 1 ≤ r = omega arith in
          let least : 10 ^ 1 ≤ 10 ^ r = pow-le-pow_right {n = 10} (omega arith) some in
          subst (λ k. 10 ^ k ≤ c.args.n) one_less (omega (arith, pow-suc 10 0, pow-zero 10)),
    )
