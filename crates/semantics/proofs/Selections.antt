-- The truth of a guard after those of the lower edges out of its node, worked out guard by guard.
use Rattle.std.specs.Prelude.{Ok}
use mathlib.Core.Path.{◌≡◌, refl, sym, ◌∙◌, ap}
use mathlib.Core.Bool.{true, ◌&&◌, and_assoc, and-true}
use mathlib.Core.List.{List, [], ◌∷◌, ◌++◌, foldl}
use Prim.Native.Nat.{ℕ}
use lib.IntN.{ℤ}
use Rattle.signs.specs.Lists.{all_of}
use Rattle.program.specs.Graph.{selected}
use Rattle.program.specs.Parts.Sorted.{boolean_named}
use Rattle.program.specs.Syntax.{Boolean, negation}
use Rattle.program.proofs.Guards.{Joins}
use Rattle.program.proofs.Laws.{selected_all, selected_folded}
use Rattle.program.proofs.Selecting.{all_split}
use Rattle.program.proofs.Tests.{two, passed, is_true}
use Rattle.semantics.specs.Expression.{conjoin, negate, truth_in, Truth}
use Rattle.semantics.specs.Parts.Coding.{decided, TruthIn}
use Rattle.semantics.specs.Parts.Selecting.{and_fail, FailsAfter}
use Rattle.semantics.proofs.Exit.{joins}

-- the names of ∧ are those of both sides
named_join : (ns : List ℕ) → Joins (boolean_named ns) ◌&&◌ true
unfolding boolean_named
named_join ns =
    record {
      both = λ k a b. refl;
      yes = λ k. refl;
      not_labelled = λ k b. refl;
      assoc = and_assoc;
      left_unit = λ a. refl;
      right_unit = and-true;
    }

fold_append : (f : Truth → Boolean → Truth) (t : Truth) (gs hs : List Boolean) → foldl f t (gs ++ hs) ≡ foldl f (foldl f t gs) hs
fold_append f t [] hs = refl
fold_append f t (g ∷ gs) hs = fold_append f (f t g) gs hs

module _ {code : List ℕ} {m : List ℤ} where
  -- no guard, and one
  pub none_fails : (v : ℤ) → FailsAfter code m [] v v
  unfolding and_fail
  none_fails v = record { gives = λ ns loaded t. refl }

  pub one_fails : {b : Boolean} {v a r : ℤ} (n : ℤ) → TruthIn code m b a → decided n ≡ negate (decided a) → decided r ≡ conjoin (decided v) (decided n) → FailsAfter code m (b ∷ []) v r
  unfolding and_fail truth_in all_of
  one_fails {b} {v} n own e q =
      record { gives = λ ns loaded t. q ∙ ap (conjoin (decided v)) (e ∙ ap negate (own.gives ns loaded (passed (two (boolean_named ns b) true t).0))) }

  -- some guards, and then more
  pub more_fail : {gs hs : List Boolean} {u v r : ℤ} → FailsAfter code m gs u v → FailsAfter code m hs v r → FailsAfter code m (gs ++ hs) u r
  unfolding and_fail
  more_fail {gs} {hs} {u} first second =
      record {
        gives = λ ns loaded t.
            let named = all_split (boolean_named ns) gs hs t in
            second.gives ns loaded named.1
            ∙ ap (λ x. foldl (λ y b. conjoin y (truth_in ns m (negation 0 b))) x hs) (first.gives ns loaded named.0)
            ∙ sym (fold_append (λ y b. conjoin y (truth_in ns m (negation 0 b))) (decided u) gs hs);
      }

  -- all of them, and the guard's own last
  pub selected_holds : {gs : List Boolean} {b : Boolean} {v a r : ℤ} → {u : ℤ} → decided u ≡ Ok true → FailsAfter code m gs u v → TruthIn code m b a → decided r ≡ conjoin (decided v) (decided a) → TruthIn code m (selected gs b) r
  unfolding and_fail boolean_named
  selected_holds {gs} {b} {a = a} true_first earlier own q =
      record {
        gives = λ ns loaded t.
            let named = two (all_of (λ g. boolean_named ns (negation 0 g)) gs) (boolean_named ns b) (sym (selected_all (named_join ns) gs b) ∙ is_true _ t) in
            q
            ∙ ap (λ x. conjoin x (decided a)) (rw true_first at earlier.gives ns loaded named.0)
            ∙ ap (conjoin (foldl (λ y g. conjoin y (truth_in ns m (negation 0 g))) (Ok true) gs)) (own.gives ns loaded (passed named.1))
            ∙ sym (selected_folded (joins ns m) gs b);
      }
