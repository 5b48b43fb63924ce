-- Numbers that stand for the values and truths of trees: of a leaf, and of a tree from those of its parts.
use Rattle.std.specs.Prelude.{Ok}
use mathlib.Core.Path.{◌≡◌, sym, ap, ◌∙◌}
use mathlib.Core.Bool.{true}
use mathlib.Core.List.{List}
use Prim.Native.Nat.{ℕ, ◌<◌}
use lib.IntN.{ℤ, pos}
use lib.ListN.{length}
use mir.Facts.{and_yes}
use Rattle.signs.specs.declared.Comparison.{Comparison}
use Rattle.signs.specs.declared.Operator.{Operator}
use Rattle.program.specs.Parts.Prepared.{cell_in, Coded}
use Rattle.program.specs.File.{is_array}
use Rattle.program.specs.Parts.Sorted.{arith_named, boolean_named}
use Rattle.program.specs.Syntax.{Arith, number, variable, element, operator, Boolean, truth, comparison, conjunction, short_circuit, negation}
use Rattle.semantics.specs.Parts.Coding.{evaluated, decided, ValueIn, TruthIn}
use Rattle.semantics.specs.Expression.{cell_value, place_of, value_at, combine, value, compare_values, conjoin, and_then, negate, truth_in, Truth}
use Rattle.semantics.proofs.Leaves.{CellOf}
use Rattle.semantics.proofs.Coded.{is_fault, fault_evaluated}
use Rattle.semantics.proofs.Named.{variable_there, array_there}

module _ {code : List ℕ} {m : List ℤ} where
  -- a number, which is cast to 64 bits; an entry past the last, which is the number 0; and a leaf by its cell
  pub number_valued : (k : ℕ) (z : ℤ) {r : ℤ} → evaluated r ≡ Ok z → ValueIn code m (number k z) r
  unfolding value
  number_valued k z e = record { gives = λ ns loaded t. e }

  pub past_valued : {a : Arith} (k : ℕ) → ((ns : List ℕ) → Coded ns code → a ≡ number k (pos 0)) → {r : ℤ} → evaluated r ≡ Ok (pos 0) → ValueIn code m a r
  unfolding value
  past_valued k past e = record { gives = λ ns loaded t. rw (past ns loaded.coded) e }

  pub variable_valued : (k x : ℕ) {r : ℤ} → evaluated r ≡ Ok (cell_value m (cell_in code x)) → ValueIn code m (variable k x) r
  unfolding value arith_named
  variable_valued k x e =
      record { gives = λ ns loaded t. e ∙ ap (λ (y : ℕ). Ok (cell_value m y)) (loaded.coded.cell x (variable_there ns x t).0) }

  pub cell_valued : {a : Arith} (c : ℕ) {r : ℤ} → CellOf code a c → evaluated r ≡ Ok (cell_value m c) → ValueIn code m a r
  cell_valued c stands e = record { gives = λ ns loaded t. e ∙ sym (stands ns m loaded t) }

  pub element_valued : (k x : ℕ) {i : Arith} {v r : ℤ} → ValueIn code m i v → ((ns : List ℕ) → Coded ns code → x < length ns → evaluated r ≡ value_at m (place_of ns x (evaluated v)))
      → ValueIn code m (element k x i) r
  unfolding value arith_named
  element_valued k x {i} index e =
      record {
        gives = λ ns loaded t.
            let named = and_yes (is_array ns x) (arith_named ns i) t in
            rw (← index.gives ns loaded named.1) (e ns loaded.coded (array_there ns x named.0).0);
      }

  module _ (k : ℕ) (o : Operator) {a b : Arith} {u : ℤ} (left : ValueIn code m a u) where
    -- the left side's fault
    pub operator_left : is_fault u ≡ true → ValueIn code m (operator k o a b) u
    unfolding value arith_named combine
    operator_left h =
        record {
          gives = λ ns loaded t.
              let named = and_yes (arith_named ns a) (arith_named ns b) t in
              rw (← left.gives ns loaded named.0, fault_evaluated u h);
        }

    pub operator_valued : {v r : ℤ} → ValueIn code m b v → evaluated r ≡ combine o (evaluated u) (evaluated v)
        → ValueIn code m (operator k o a b) r
    unfolding value arith_named
    operator_valued right e =
        record {
          gives = λ ns loaded t.
              let named = and_yes (arith_named ns a) (arith_named ns b) t in
              rw (← left.gives ns loaded named.0, ← right.gives ns loaded named.1) e;
        }

  -- ---- truths

  pub true_holds : (k : ℕ) {r : ℤ} → decided r ≡ Ok true → TruthIn code m (truth k) r
  unfolding truth_in
  true_holds k e = record { gives = λ ns loaded t. e }

  pub comparison_holds : (k : ℕ) (c : Comparison) {a b : Arith} {u v r : ℤ} → ValueIn code m a u → ValueIn code m b v
      → decided r ≡ compare_values c (evaluated u) (evaluated v) → TruthIn code m (comparison k c a b) r
  unfolding truth_in boolean_named
  comparison_holds k c {a} {b} left right e =
      record {
        gives = λ ns loaded t.
            let named = and_yes (arith_named ns a) (arith_named ns b) t in
            rw (← left.gives ns loaded named.0, ← right.gives ns loaded named.1) e;
      }

  pub negation_holds : (k : ℕ) {a : Boolean} {u r : ℤ} → TruthIn code m a u → decided r ≡ negate (decided u) → TruthIn code m (negation k a) r
  unfolding truth_in boolean_named
  negation_holds k under e = record { gives = λ ns loaded t. rw (← under.gives ns loaded t) e }

  module _ (k : ℕ) {a b : Boolean} {u : ℤ} (left : TruthIn code m a u) where
    pub conjunction_holds : {v r : ℤ} → TruthIn code m b v → decided r ≡ conjoin (decided u) (decided v) → TruthIn code m (conjunction k a b) r
    unfolding truth_in boolean_named
    conjunction_holds right e =
        record {
          gives = λ ns loaded t.
              let named = and_yes (boolean_named ns a) (boolean_named ns b) t in
              rw (← left.gives ns loaded named.0, ← right.gives ns loaded named.1) e;
        }

    -- && where the left is true, and where it is not
    pub short_right : {v : ℤ} → decided u ≡ Ok true → TruthIn code m b v → TruthIn code m (short_circuit k a b) v
    unfolding truth_in boolean_named and_then
    short_right e right =
        record {
          gives = λ ns loaded t.
              let named = and_yes (boolean_named ns a) (boolean_named ns b) t in
              rw (← left.gives ns loaded named.0, e) (right.gives ns loaded named.1);
        }

    pub short_left : ((y : Truth) → decided u ≡ and_then (decided u) y) → TruthIn code m (short_circuit k a b) u
    unfolding truth_in boolean_named
    short_left e =
        record {
          gives = λ ns loaded t.
              let named = and_yes (boolean_named ns a) (boolean_named ns b) t in
              rw (← left.gives ns loaded named.0) (e (truth_in ns m b));
        }
