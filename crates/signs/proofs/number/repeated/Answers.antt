-- `number::repeated`: the product is the power of the base by the number of factors so far, and fits 32 bits.
-- A product that leaves the range stays outside, by `power_stays`.
use mathlib.Core.Path.{◌≡◌, sym, ap, ◌∙◌}
use Prim.Native.Nat.{ℕ, ◌+◌}
use native.Mathlib.Numerals.{add-one}
use native.Mathlib.Omega.{arith}
use lib.IntN.{ℤ, ◌*ℤ◌}
use borrow.Author.Gap.{read_sfits}
use mir.Syntax.{w32}
use mir.Val.{Fits, SFits, to_z, of_z}
use mir.ValLaws.{to_z-of_z, of_z-to_z}
use Rattle.signs.proofs.Results.{raised_again}
use Rattle.signs.proofs.Power.{power_zero, power_suc, power_stays}
use Rattle.signs.proofs.Range.{exact_within, exact_outside, exact_number, exact_undefined}
use Rattle.signs.proofs.Signed.{wide_fits, wide_result, product_fits}
use Rattle.signs.specs.Number.{power, exact}
use Rattle.signs.proofs.number.repeated.Goals as goal
use Rattle.signs.proofs.number.repeated.Goals.{In-loop, After-exact}

-- what holds at the loop's head: the power so far fits, and the product's bits are those of it
module _ (base : ℤ) (i bits : ℕ) (f : SFits w32 base) (is : to_z w32 bits ≡ power (to_z w32 (of_z w32 base)) i) where
  power_is : to_z w32 bits ≡ power base i
  power_is = is ∙ ap (λ x. power x i) (to_z-of_z w32 base f)

  so_far : SFits w32 (power base i)
  so_far = rw power_is at (read_sfits w32 bits)

  bits_are : Fits w32 bits → bits ≡ of_z w32 (power base i)
  bits_are b = sym (of_z-to_z w32 bits b) ∙ ap (of_z w32) power_is

pub loop-init : goal.loop-init
loop-init c = rw power_zero

pub overflow_mul-product : goal.overflow_mul-product
overflow_mul-product c =
    let f = c.ranges.base in
    rw (bits_are c.args.base c.loop.counter c.loop.product-bits c.ranges.base c.loop.invariant c.loop.auto.product-fits) (wide_fits ◌*ℤ◌ (so_far c.args.base c.loop.counter c.loop.product-bits c.ranges.base c.loop.invariant) f (product_fits (so_far c.args.base c.loop.counter c.loop.product-bits c.ranges.base c.loop.invariant) f))

next_is : (c : After-exact) → c.exact.result ≡ exact (power c.args.base (c.loop.counter + 1))
next_is c =
    let f = c.ranges.base in
    c.exact.ensures
    ∙ ap exact (rw (bits_are c.args.base c.loop.counter c.loop.product-bits c.ranges.base c.loop.invariant c.loop.auto.product-fits, add-one, power_suc) (wide_result ◌*ℤ◌ (so_far c.args.base c.loop.counter c.loop.product-bits c.ranges.base c.loop.invariant) f (product_fits (so_far c.args.base c.loop.counter c.loop.product-bits c.ranges.base c.loop.invariant) f)))

pub returns-in_err-product : goal.returns-in_err-product
returns-in_err-product c =
    let z = power c.args.base (c.loop.counter + 1) in
    let next : c.exact.result ≡ exact z = next_is (goal.at.returns-in_err-product c).After-exact in
    let out = exact_undefined z _ (sym next ∙ c.in_err-product.was) in
    raised_again c.from_residual.result c.from_residual.ensures.1 (c.in_err-product.was) ∙ next ∙ exact_outside z out ∙ sym (power_stays c.args.base (c.loop.counter + 1) c.args.count (omega (arith, c.loop-test.true)) out)

pub loop-preserved : goal.loop-preserved
loop-preserved c =
    let z = power c.args.base (c.loop.counter + 1) in
    let known = exact_number z c.in_ok-product.product (sym (next_is (goal.at.loop-preserved c).After-exact) ∙ c.in_ok-product.was) in
    rw (to_z-of_z w32 c.args.base c.ranges.base) (ap (λ x. to_z w32 (of_z w32 x)) (sym known.1) ∙ to_z-of_z w32 z known.0)

pub returns : goal.returns
returns c =
    let all : c.loop.counter ≡ c.args.count = omega (arith, c.loop-test.false, c.loop.auto.counter-end) in
    let z = power c.args.base c.loop.counter in
    rw (bits_are c.args.base c.loop.counter c.loop.product-bits c.ranges.base c.loop.invariant c.loop.auto.product-fits, to_z-of_z w32 z (so_far c.args.base c.loop.counter c.loop.product-bits c.ranges.base c.loop.invariant), sym all) (sym (exact_within z (so_far c.args.base c.loop.counter c.loop.product-bits c.ranges.base c.loop.invariant)))
