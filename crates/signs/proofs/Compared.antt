-- Comparisons and truth answers: what is among the answers.
use mathlib.Core.Path.{◌≡◌, refl, subst, ◌∙◌}
use mathlib.Core.Bool.{Bool, true, false, cond, not, ◌&&◌}
use mathlib.Core.List.{List, [], ◌∷◌, ◌++◌, Memᴰ, flat_map}
use Prim.Native.Nat.{ℕ, zero, suc}
use native.Mathlib.Omega.{arith}
use borrow.Author.Tests.{le-leb, lt-leb}
use lib.Dec.{T, eqb-zero-suc, eqb-suc-zero}
use lib.IntN.{ℤ, pos, negsuc}
use mir.Facts.{and_yes}
use Rattle.signs.specs.Lists.{any_of, all_of, pairs}
use Rattle.signs.specs.Number.{compares}
use Rattle.signs.specs.Sign.{has, single, members, sign_of}
use Rattle.signs.specs.Truth.{truths_of, among, answers, samples, compare_signs, compare_sets}
use Rattle.signs.specs.declared.Comparison.{Comparison}
use Rattle.signs.specs.declared.Comparison.TheVariants.{Equal, Greater, AtLeast}
use Rattle.signs.specs.declared.Sign.{Sign}
use Rattle.signs.specs.declared.Sign.TheVariants.{Minus, Zero, Plus}
use Rattle.signs.specs.declared.Truths.{Truths}
use Rattle.signs.proofs.Finite.{at_sign, at_comparison}
use Rattle.signs.proofs.Lists.{any_of_cong, any_of_flat_map, any_of_pairs, any_of_witness, all_of_member}
use Rattle.signs.proofs.Membership.{any_of_member_pairs, some_pair, single_only}
use Rattle.signs.proofs.Open.{definitions}

-- whether a truth value is the one asked about
abbrev is : Bool → Bool → Bool
is true b = b
is false b = not b

among_truths_of : (v : Bool) (bs : List Bool) → among v (truths_of bs) ≡ any_of (is v) bs
unfolding among truths_of
among_truths_of true bs = refl
among_truths_of false bs = refl

among_answers : (v : Bool) (t : Truths) → any_of (is v) (answers t) ≡ among v t
unfolding among answers any_of
among_answers v t = go v t.holds t.fails
  where
    go : (v h f : Bool) → any_of (is v) (cond h (true ∷ []) [] ++ cond f (false ∷ []) []) ≡ among v (record { holds = h; fails = f })
    go true true f = refl
    go true false true = refl
    go true false false = refl
    go false true true = refl
    go false true false = refl
    go false false true = refl
    go false false false = refl

pub among_compare_sets : (c : Comparison) (a b : ℕ) (v : Bool) → among v (compare_sets c a b) ≡ some_pair (λ l r. among v (compare_signs c l r)) a b
unfolding compare_sets
among_compare_sets c a b v =
    among_truths_of v (flat_map answers (pairs (compare_signs c) (members a) (members b)))
    ∙ any_of_flat_map (is v) answers (pairs (compare_signs c) (members a) (members b))
    ∙ any_of_cong (λ t. any_of (is v) (answers t)) (among v) (among_answers v) (pairs (compare_signs c) (members a) (members b))
    ∙ any_of_pairs (among v) (compare_signs c) (members a) (members b)
    ∙ any_of_member_pairs (λ l r. among v (compare_signs c l r)) a b

-- both answers are there
either : (v : Bool) (t : Truths) → T (t.holds && t.fails) → T (among v t)
unfolding among
either true t h = (and_yes t.holds t.fails h).0
either false t h = (and_yes t.holds t.fails h).1

-- the truth of a comparison is among the answers for the signs
pub compared : (c : Comparison) (a b : ℤ) → T (among (compares c a b) (compare_signs c (sign_of a) (sign_of b)))
unfolding definitions
compared c (pos zero) (pos zero) = at_comparison (λ c. among (compares c (pos 0) (pos 0)) (compare_signs c Zero Zero)) tt c
compared c (pos zero) (negsuc b) = at_comparison (λ c. among (compares c (pos 0) (negsuc b)) (compare_signs c Zero Minus)) tt c
compared c (negsuc a) (pos zero) = at_comparison (λ c. among (compares c (negsuc a) (pos 0)) (compare_signs c Minus Zero)) tt c
compared c (negsuc a) (pos (suc b)) = at_comparison (λ c. among (compares c (negsuc a) (pos (suc b))) (compare_signs c Minus Plus)) tt c
compared c (pos (suc a)) (negsuc b) = at_comparison (λ c. among (compares c (pos (suc a)) (negsuc b)) (compare_signs c Plus Minus)) tt c
compared c (pos (suc a)) (pos (suc b)) = either (compares c (pos (suc a)) (pos (suc b))) (compare_signs c Plus Plus) (at_comparison (λ c. (compare_signs c Plus Plus).holds && (compare_signs c Plus Plus).fails) tt c)
compared c (negsuc a) (negsuc b) = either (compares c (negsuc a) (negsuc b)) (compare_signs c Minus Minus) (at_comparison (λ c. (compare_signs c Minus Minus).holds && (compare_signs c Minus Minus).fails) tt c)
compared Equal (pos zero) (pos (suc b)) = rw (eqb-zero-suc b) tt
compared Greater (pos zero) (pos (suc b)) = rw (lt-leb (suc (suc b)) 0 (omega arith)) tt
compared AtLeast (pos zero) (pos (suc b)) = rw (lt-leb (suc b) 0 (omega arith)) tt
compared Equal (pos (suc a)) (pos zero) = rw (eqb-suc-zero a) tt
compared Greater (pos (suc a)) (pos zero) = rw (le-leb 1 (suc a) (omega arith)) tt
compared AtLeast (pos (suc a)) (pos zero) = rw (le-leb 0 (suc a) (omega arith)) tt

-- an answer for two signs is that of two numbers of these signs: the samples
pub record Occurs (c : Comparison) (l r : Sign) (v : Bool) : Type 0 where
  pub left : ℤ
  pub right : ℤ
  pub left_sign : sign_of left ≡ l
  pub right_sign : sign_of right ≡ r
  pub truth : compares c left right ≡ v

sampled : (s : Sign) (z : ℤ) → Memᴰ z (samples s) → sign_of z ≡ s
unfolding definitions
sampled s z m = single_only (sign_of z) s (all_of_member (λ z. has (single (sign_of z)) s) (samples s) (right s) m)
  where
    right : (s : Sign) → T (all_of (λ z. has (single (sign_of z)) s) (samples s))
    right s = at_sign (λ s. all_of (λ z. has (single (sign_of z)) s) (samples s)) tt s

is_eq : (v b : Bool) → T (is v b) → b ≡ v
is_eq true true t = refl
is_eq true false t = absurd t
is_eq false true t = absurd t
is_eq false false t = refl

pub occurs : (c : Comparison) (l r : Sign) (v : Bool) → T (among v (compare_signs c l r)) → Occurs c l r v
unfolding compare_signs
occurs c l r v h = record { left = x.0; right = y.0; left_sign = sampled l x.0 x.1; right_sign = sampled r y.0 y.1; truth = is_eq v (compares c x.0 y.0) y.2 }
  where
    tested : T (any_of (λ x. any_of (λ y. is v (compares c x y)) (samples r)) (samples l))
    tested = subst T (among_truths_of v (pairs (compares c) (samples l) (samples r)) ∙ any_of_pairs (is v) (compares c) (samples l) (samples r)) h

    x : (x : ℤ) × Memᴰ x (samples l) × T (any_of (λ y. is v (compares c x y)) (samples r))
    x = any_of_witness (λ x. any_of (λ y. is v (compares c x y)) (samples r)) (samples l) tested

    y : (y : ℤ) × Memᴰ y (samples r) × T (is v (compares c x.0 y))
    y = any_of_witness (λ y. is v (compares c x.0 y)) (samples r) x.2
