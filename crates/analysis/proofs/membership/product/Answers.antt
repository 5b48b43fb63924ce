-- `membership::product`: a byte times a number of 16 bits.
use Rattle.std.proofs.Common.{◌*◌, ◌≤◌, refl, mul-le-mul, arith}
use Rattle.analysis.proofs.membership.product.Goals as goal
use Rattle.analysis.proofs.membership.product.Goals.{Start}

small : (c : Start) → c.args.byte * c.args.factor ≤ 255 * 65535
small c = mul-le-mul {n₂ = 255} {m₂ = 65535} (omega arith) (omega arith)

pub overflow_mul-result : goal.overflow_mul-result
overflow_mul-result c = omega (arith, small (goal.at.overflow_mul-result c).Start)

pub returns : goal.returns
returns c = record { value = refl; small = small (goal.at.returns c).Start }
