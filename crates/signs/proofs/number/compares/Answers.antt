-- `number::compares`: each arm knows its comparison, and the machine compares what it reads back from the bits.
use Rattle.signs.proofs.Signed.{equal_bits}
use Rattle.signs.specs.Number.{compares}
use Rattle.signs.proofs.number.compares.Goals as goal

pub returns-in-Equal : goal.returns-in-Equal
unfolding compares
returns-in-Equal c =
    rw c.in-Equal.is (equal_bits c.args.a c.args.b c.ranges.a c.ranges.b)
