-- What an action does to a memory, by its meaning (document 01, "The step"; book, Definition 2.17 and Exercise 2.20).
use Rattle.std.specs.Prelude.{ℕ, Bool, true, false, List, set, ℤ, Err, Ok}
use Rattle.signs.specs.declared.Reason.TheVariants.{ConditionFalse}
use Rattle.program.specs.File.{first_cell}
use Rattle.program.specs.Meaning.{Meaning, nothing, assigns, stores, condition}
use Rattle.semantics.specs.Expression.{fault, Place, at, nowhere, place_of, value, truth_in, Evaluation, Truth}
use Rattle.semantics.specs.declared.Effect.{Effect}
use Rattle.semantics.specs.declared.Effect.TheVariants.{Undefined as Fails, Unchanged, Stored}

-- a condition: "31 condition false"
unfoldable pub pass : Truth → Effect
pass (Ok true) = Unchanged
pass (Ok false) = Fails (fault ConditionFalse)
pass (Err f) = Fails f

-- a store to a place: "A store works out its index, tests 34 and 35, then its value."
unfoldable pub store_to : Place → Evaluation → Effect
store_to (at c) (Ok z) = Stored c z
store_to (at c) (Err f) = Fails f
store_to (nowhere f) v = Fails f

-- the effect of an action in a memory, by its meaning
unfoldable pub effect : List ℕ → List ℤ → Meaning → Effect
effect ns m nothing = Unchanged
effect ns m (assigns x a) = store_to (at (first_cell ns x)) (value ns m a)
effect ns m (stores x i a) = store_to (place_of ns x (value ns m i)) (value ns m a)
effect ns m (condition b) = pass (truth_in ns m b)

-- the memory after an effect: "An action is undefined, the memory and the run stay"
unfoldable pub after : List ℤ → Effect → List ℤ
after m (Fails f) = m
after m Unchanged = m
after m (Stored c z) = set m c z

-- whether an effect is defined
unfoldable pub is_defined : Effect → Bool
is_defined (Fails f) = false
is_defined Unchanged = true
is_defined (Stored c z) = true
