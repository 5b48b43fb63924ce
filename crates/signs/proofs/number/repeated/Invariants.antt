-- `number::repeated`: the product is the power of the base by the number of factors so far.
use Rattle.std.specs.Prelude.{◌≡◌}
use Rattle.signs.specs.Number.{power}
use Rattle.signs.proofs.number.repeated.Given as goal

abbrev pub invariant-loop : goal.invariant-loop
invariant-loop l = l.product ≡ power l.base l.counter
