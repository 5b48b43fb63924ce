-- How the conjunction of a loop's exit is grouped makes no difference to its truth, nor to the reason where it is undefined: it is that of its guards' falsehoods joined left to right.
use Rattle.std.specs.Prelude.{Err, Ok}
use mathlib.Core.Path.{◌≡◌, refl, ap}
use mathlib.Core.Bool.{Bool, true, false, ◌&&◌}
use mathlib.Core.List.{List}
use Prim.Native.Nat.{ℕ}
use lib.IntN.{ℤ}
use Rattle.program.specs.Graph.{guards, done}
use Rattle.program.specs.Parts.Guards.{all_false}
use Rattle.program.specs.Syntax.{Command}
use Rattle.program.proofs.Guards.{Joins}
use Rattle.program.proofs.Laws.{left_to_right}
use Rattle.semantics.specs.Expression.{conjoin, truth_in, Truth}

and_assoc : (a b c : Bool) → (a && b && c) ≡ (a && (b && c))
and_assoc true b c = refl
and_assoc false b c = refl

pub conjoin_assoc : (a b c : Truth) → conjoin (conjoin a b) c ≡ conjoin a (conjoin b c)
unfolding conjoin
conjoin_assoc (Ok a) (Ok b) (Ok c) = ap Ok (and_assoc a b c)
conjoin_assoc (Ok a) (Ok b) (Err r) = refl
conjoin_assoc (Ok a) (Err r) c = refl
conjoin_assoc (Err r) b c = refl

conjoin_true : (a : Truth) → conjoin (Ok true) a ≡ a
unfolding conjoin
conjoin_true (Ok a) = refl
conjoin_true (Err r) = refl

true_conjoin : (a : Truth) → conjoin a (Ok true) ≡ a
unfolding conjoin
true_conjoin (Ok true) = refl
true_conjoin (Ok false) = refl
true_conjoin (Err r) = refl

pub joins : (ns : List ℕ) (m : List ℤ) → Joins (truth_in ns m) conjoin (Ok true)
unfolding truth_in
joins ns m =
    record {
      both = λ k a b. refl;
      yes = λ k. refl;
      not_labelled = λ k b. refl;
      assoc = conjoin_assoc;
      left_unit = conjoin_true;
      right_unit = true_conjoin;
    }

pub exit_truth : (ns : List ℕ) (m : List ℤ) (c : Command) → truth_in ns m (done c) ≡ truth_in ns m (all_false (guards c))
exit_truth ns m = left_to_right (joins ns m)
