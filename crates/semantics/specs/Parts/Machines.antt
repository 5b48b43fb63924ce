-- That a code is ordered is told in one way, so a struct can hold it as a ghost field.
use Rattle.std.specs.Prelude.{ℕ, List}
use Rattle.std.specs.Coded.{×_prop, Unit-prop, le_prop}
use Rattle.program.specs.Parts.Prepared.{Lower, Ordered, arith_in}
use Rattle.program.specs.declared.ArithNode.{ArithNode}
use Rattle.program.specs.declared.ArithNode.TheVariants.{Number, Variable, Element, Operator}

lower_prop : (n : ℕ) (x : ArithNode) → IsProp (Lower n x)
lower_prop n (Number z) = Unit-prop
lower_prop n (Variable x) = Unit-prop
lower_prop n (Element x i) = le_prop
lower_prop n (Operator o p q) = ×_prop le_prop le_prop

pub ordered_prop : (code : List ℕ) → IsProp (Ordered code)
ordered_prop code a b = λ i. record { few = le_prop a.few b.few i; lower = λ n h. lower_prop n (arith_in code n) (a.lower n h) (b.lower n h) i }
