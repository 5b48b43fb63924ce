-- What a number stands for that the evaluators hand on, by whether it is a fault; and what becomes of such numbers.
use Rattle.std.specs.Prelude.{Err, Ok}
use mathlib.Core.Path.{◌≡◌, refl, sym, ◌∙◌, subst, ap}
use mathlib.Core.Bool.{Bool, true, false, not, ◌&&◌, true≢false, cond}
use mathlib.Core.List.{List}
use mathlib.Core.Logic.{⊎_elim}
use Prim.Native.Nat.{ℕ, ◌+◌, ◌-◌, ◌≤◌, ◌<◌}
use native.Mathlib.Omega.{arith}
use borrow.Author.Tests.{eqb-true, lt-ltb, le-ltb, ltb-true, leb-true, leb-false, le-leb, lt-leb, ne_eqb}
use lib.Dec.{T, eqb, leb, leb→le}
use lib.IntN.{ℤ, pos, negsuc, nat_abs, ◌+ℤ◌}
use lib.ListN.{get_or}
use lib.Signed.{mag, non_neg, le_z, lt_z}
use mir.Facts.{or_yes, and_yes, sfits_widen}
use mir.Syntax.{w32, w64}
use mir.Val.{bool_byte, SFits, to_z, of_z}
use mir.ValLaws.{to_z-of_z}
use Rattle.signs.specs.Number.{reason_number, in_range, equal, apply, compares}
use Rattle.signs.specs.declared.Comparison.{Comparison}
use Rattle.signs.specs.declared.Operator.{Operator}
use Rattle.signs.specs.declared.Reason.TheVariants.{ConditionFalse, DivisorZero, ExponentNegative, IndexNegative, IndexTooLarge, OutOfRange}
use Rattle.signs.specs.declared.Reason.{Reason}
use Rattle.program.specs.File.{first_cell}
use Rattle.semantics.specs.Parts.Coding.{earlier, reason_numbered, evaluated, decided, is_code, place_by, Indexed}
use Rattle.semantics.specs.Expression.{fault, at, nowhere, place_of, operated, combine, compare_values, conjoin, and_then, negate, Truth}
use Rattle.semantics.specs.declared.Fault.{Fault}

-- the test for a fault, and the fault
abbrev pub is_fault : ℤ → Bool
is_fault z = le_z (pos 4294967296) z

abbrev pub fault_in : ℤ → Fault
fault_in z = fault (reason_numbered (nat_abs z - 4294967296))

-- what a test gave that was asked, and of another name for the number
pub tested : {r a b : Bool} → r ≡ a → r ≡ b → a ≡ b
tested e t = sym e ∙ t

pub tested_as : {x z : ℤ} {r b : Bool} → x ≡ z → r ≡ is_fault x → r ≡ b → is_fault z ≡ b
tested_as p e t = ap is_fault (sym p) ∙ sym e ∙ t

-- ---- what a number stands for

pub fault_evaluated : (z : ℤ) → is_fault z ≡ true → evaluated z ≡ Err (fault_in z)
unfolding evaluated
fault_evaluated (pos n) h = rw (le-ltb n 4294967296 (leb-true 4294967296 n h))
fault_evaluated (negsuc n) h = absurd (true≢false (sym h))

pub fault_decided : (z : ℤ) → is_fault z ≡ true → decided z ≡ Err (fault_in z)
unfolding decided
fault_decided (pos n) h = rw (le-ltb n 4294967296 (leb-true 4294967296 n h))
fault_decided (negsuc n) h = absurd (true≢false (sym h))

pub number_evaluated : (z : ℤ) → is_fault z ≡ false → evaluated z ≡ Ok z
unfolding evaluated
number_evaluated (pos n) h = rw (lt-ltb n 4294967296 (leb-false 4294967296 n h))
number_evaluated (negsuc n) h = refl

pub truth_decided : (z : ℤ) → is_fault z ≡ false → decided z ≡ Ok (equal z (pos 1))
unfolding decided equal
truth_decided (pos n) h = rw (lt-ltb n 4294967296 (leb-false 4294967296 n h))
truth_decided (negsuc n) h = refl

-- ---- numbers of 32 bits

pub small_number : (z : ℤ) → SFits w32 z → is_fault z ≡ false
small_number (pos n) f = lt-leb 4294967296 n (omega (arith, f.sfits))
small_number (negsuc n) f = refl

pub small_evaluated : (z : ℤ) → SFits w32 z → evaluated z ≡ Ok z
small_evaluated z f = number_evaluated z (small_number z f)

pub small_code : (z : ℤ) → SFits w32 z → T (is_code z)
unfolding is_code in_range
small_code (pos n) f = rw (le-leb n 2147483647 (omega (arith, f.sfits))) tt
small_code (negsuc n) f = rw (le-leb n 2147483647 (omega (arith, f.sfits))) tt

pub code_small : (z : ℤ) → T (is_code z) → is_fault z ≡ false → SFits w32 z
unfolding is_code in_range
code_small (pos n) t h =
    ⊎_elim
    (λ y. record { sfits = omega (arith, leb→le n 2147483647 y) })
    (λ y. absurd (subst T h y))
    (or_yes (leb n 2147483647) (leb 4294967296 n) t)
code_small (negsuc n) t h =
    ⊎_elim
    (λ y. record { sfits = omega (arith, leb→le n 2147483647 (and_yes (leb n 2147483647) true y).0) })
    (λ y. absurd y)
    (or_yes (leb n 2147483647 && true) false t)

-- a number of 32 bits by another name, and what a code that is no fault is unpacked to
pub stored_as : (x : ℤ) {z : ℤ} → x ≡ z → SFits w32 z → to_z w64 (of_z w64 x) ≡ z
stored_as x {z} e f = rw e (to_z-of_z w64 z (sfits_widen tt f))

pub code_as : (x : ℤ) {z : ℤ} → T (is_code x) → x ≡ z → is_fault z ≡ false → SFits w32 x
code_as x t e h = code_small x t (ap is_fault e ∙ h)

-- the bits of a code are those of 1 where it is 1
pub true_bits : (x : ℤ) → T (is_code x) → eqb (of_z w64 x) 1 ≡ equal x (pos 1)
unfolding is_code in_range equal
true_bits (pos n) t = refl
true_bits (negsuc n) t =
    ⊎_elim
    (λ y. ne_eqb _ 1 (λ e. omega (arith, e, leb→le n 2147483647 (and_yes (leb n 2147483647) true y).0)))
    (λ y. absurd y)
    (or_yes (leb n 2147483647 && true) false t)

-- a reason's number over 2^32
pub record FaultOf (r : Reason) (z : ℤ) : Type 0 where
  pub code : T (is_code z)
  pub evaluated : evaluated z ≡ Err (fault r)
  pub decided : decided z ≡ Err (fault r)

pub fault_packed : (r : Reason) (x : ℤ) → x ≡ pos (reason_number r) → FaultOf r (to_z w64 (of_z w64 (pos 4294967296 +ℤ to_z w64 (of_z w64 x))))
unfolding is_code in_range evaluated decided reason_numbered reason_number
fault_packed ConditionFalse x e = rw e record { code = tt; evaluated = refl; decided = refl }
fault_packed DivisorZero x e = rw e record { code = tt; evaluated = refl; decided = refl }
fault_packed ExponentNegative x e = rw e record { code = tt; evaluated = refl; decided = refl }
fault_packed IndexNegative x e = rw e record { code = tt; evaluated = refl; decided = refl }
fault_packed IndexTooLarge x e = rw e record { code = tt; evaluated = refl; decided = refl }
fault_packed OutOfRange x e = rw e record { code = tt; evaluated = refl; decided = refl }

-- a truth value, 1 or 0
pub truth_packed : (b : Bool) (x : ℤ) → x ≡ pos (bool_byte b) → T (is_code (to_z w64 (of_z w64 x))) × (decided (to_z w64 (of_z w64 x)) ≡ Ok b)
unfolding is_code in_range decided
truth_packed true x e = rw e (tt, refl)
truth_packed false x e = rw e (tt, refl)

-- cast to 32 bits and back
pub narrow : (z : ℤ) → SFits w32 z → to_z w32 (of_z w32 (to_z w64 (of_z w64 z))) ≡ z
narrow z f = rw (to_z-of_z w64 z (sfits_widen tt f)) (to_z-of_z w32 z f)

-- ---- truth values

pub one_decided : (z : ℤ) → equal z (pos 1) ≡ true → decided z ≡ Ok true
unfolding decided equal
one_decided (pos n) e = rw (eqb-true n 1 e)
one_decided (negsuc n) e = absurd (true≢false (sym e))

-- && asks the right side where the left is true, and else gives the left
pub other_decided : (z : ℤ) (b : Truth) → equal z (pos 1) ≡ false → decided z ≡ and_then (decided z) b
unfolding and_then
other_decided z b h = by (is_fault z) refl
  where
    by : (t : Bool) → is_fault z ≡ t → decided z ≡ and_then (decided z) b
    by true e = rw (fault_decided z e)
    by false e = rw (truth_decided z e, h)

pub negate_fault : (a : ℤ) → is_fault a ≡ true → decided a ≡ negate (decided a)
unfolding negate
negate_fault a h = rw (fault_decided a h)

pub negate_truth : (a : ℤ) {t : Bool} → is_fault a ≡ false → equal a (pos 1) ≡ t → negate (decided a) ≡ Ok (not t)
unfolding negate
negate_truth a h e = rw (truth_decided a h, e)

-- ---- two of them

module _ (a b : ℤ) where
  -- the left is a fault
  module _ (h : is_fault a ≡ true) where
    pub combine_left : (o : Operator) → evaluated a ≡ combine o (evaluated a) (evaluated b)
    unfolding combine
    combine_left o = rw (fault_evaluated a h)

    pub compare_left : (c : Comparison) → decided a ≡ compare_values c (evaluated a) (evaluated b)
    unfolding compare_values
    compare_left c = rw (fault_decided a h, fault_evaluated a h)

    pub conjoin_left : decided a ≡ conjoin (decided a) (decided b)
    unfolding conjoin
    conjoin_left = rw (fault_decided a h)

  module _ (h : is_fault a ≡ false) where
    -- the right alone is
    module _ (k : is_fault b ≡ true) where
      pub combine_right : (o : Operator) → evaluated b ≡ combine o (evaluated a) (evaluated b)
      unfolding combine
      combine_right o = rw (number_evaluated a h, fault_evaluated b k)

      pub compare_right : (c : Comparison) → decided b ≡ compare_values c (evaluated a) (evaluated b)
      unfolding compare_values
      compare_right c = rw (fault_decided b k, number_evaluated a h, fault_evaluated b k)

      pub conjoin_right : decided b ≡ conjoin (decided a) (decided b)
      unfolding conjoin
      conjoin_right = rw (truth_decided a h, fault_decided b k)

    -- neither is
    module _ (k : is_fault b ≡ false) where
      pub combine_both : (o : Operator) → combine o (evaluated a) (evaluated b) ≡ operated (apply o a b)
      unfolding combine
      combine_both o = rw (number_evaluated a h, number_evaluated b k)

      pub compare_both : (c : Comparison) → compare_values c (evaluated a) (evaluated b) ≡ Ok (compares c a b)
      unfolding compare_values
      compare_both c = rw (number_evaluated a h, number_evaluated b k)

      pub conjoin_true : equal a (pos 1) ≡ true → decided b ≡ conjoin (decided a) (decided b)
      unfolding conjoin
      conjoin_true e = rw (truth_decided a h, truth_decided b k, e)

      pub conjoin_false : equal a (pos 1) ≡ false → conjoin (decided a) (decided b) ≡ Ok false
      unfolding conjoin
      conjoin_false e = rw (truth_decided a h, truth_decided b k, e)

module _ (a b : ℤ) where
  by_left : (P : ℤ → Type 0) → (is_fault a ≡ true → P a) → (is_fault a ≡ false → P b) → P (earlier a b)
  unfolding earlier
  by_left P x y = by (is_fault a) refl
    where
      by : (t : Bool) → is_fault a ≡ t → P (cond t a b)
      by true e = x e
      by false e = y e

  pub combine_fault : is_fault (earlier a b) ≡ true → (o : Operator) → evaluated (earlier a b) ≡ combine o (evaluated a) (evaluated b)
  combine_fault h o = by_left (λ z. is_fault z ≡ true → evaluated z ≡ combine o (evaluated a) (evaluated b)) (λ e k. combine_left a b e o) (λ e k. combine_right a b e k o) h

  pub compare_fault : is_fault (earlier a b) ≡ true → (c : Comparison) → decided (earlier a b) ≡ compare_values c (evaluated a) (evaluated b)
  compare_fault h c = by_left (λ z. is_fault z ≡ true → decided z ≡ compare_values c (evaluated a) (evaluated b)) (λ e k. compare_left a b e c) (λ e k. compare_right a b e k c) h

  pub conjoin_fault : is_fault (earlier a b) ≡ true → decided (earlier a b) ≡ conjoin (decided a) (decided b)
  conjoin_fault h = by_left (λ z. is_fault z ≡ true → decided z ≡ conjoin (decided a) (decided b)) (λ e k. conjoin_left a b e) (λ e k. conjoin_right a b e k) h

  pub no_faults : is_fault (earlier a b) ≡ false → (is_fault a ≡ false) × (is_fault b ≡ false)
  no_faults h = by_left (λ z. is_fault z ≡ false → (is_fault a ≡ false) × (is_fault b ≡ false)) (λ e k. absurd (true≢false (sym e ∙ k))) (λ e k. (e, k)) h

-- ---- an index

pub not_below : (z : ℤ) → lt_z z (pos 0) ≡ false → T (non_neg z)
not_below (pos n) e = tt
not_below (negsuc n) e = absurd (true≢false e)

-- a value that was unpacked, as the machine passes it
pub passed : (x : ℤ) {z : ℤ} → mag x < 2147483648 → x ≡ z → to_z w32 (of_z w32 x) ≡ z
passed x h e = to_z-of_z w32 x (record { sfits = h }) ∙ e

-- the place that an index gives
module _ (ns : List ℕ) (x : ℕ) (r : ℤ) where
  pub placed_fault : is_fault r ≡ true → place_by ns x r ≡ nowhere (fault_in r)
  unfolding place_by
  placed_fault h = rw h

  pub placed_at : is_fault r ≡ false → place_by ns x r ≡ at (first_cell ns x + nat_abs r)
  unfolding place_by
  placed_at h = rw h

-- a number that stands for a fault is one
undefined_fault : (r : ℤ) (f : Fault) → evaluated r ≡ Err f → (is_fault r ≡ true) × (fault_in r ≡ f)
undefined_fault r f e = by (is_fault r) refl
  where
    by : (t : Bool) → is_fault r ≡ t → (t ≡ true) × (fault_in r ≡ f)
    by true h = (refl, let same : Err (fault_in r) ≡ Err f = sym (fault_evaluated r h) ∙ e in cc)
    by false h = absurd (let same : Ok r ≡ Err f = sym (number_evaluated r h) ∙ e in let z : ◌≡◌ {A = ℕ} 0 1 = cc in omega arith)

module _ (size : ℕ) (v : ℤ) where
  -- a fault is handed on
  pub index_fault : is_fault v ≡ true → Indexed size v v
  unfolding place_of
  index_fault h =
      record { below = λ k. absurd (true≢false (sym h ∙ k)); place = λ ns x s. rw (fault_evaluated v h, placed_fault ns x v h) }

  -- one that is found: the number that stands for it
  refused_index : (r : ℤ) (f : Fault) → evaluated r ≡ Err f
      → ((ns : List ℕ) (x : ℕ) → get_or ns x 0 ≡ size → place_of ns x (evaluated v) ≡ nowhere f) → Indexed size v r
  refused_index r f e p =
      let fault = undefined_fault r f e in
      record {
        below = λ k. absurd (true≢false (sym fault.0 ∙ k));
        place = λ ns x s. p ns x s ∙ ap nowhere (sym fault.1) ∙ sym (placed_fault ns x r fault.0);
      }

  negative_place : (z : ℤ) → is_fault z ≡ false → lt_z z (pos 0) ≡ true → (ns : List ℕ) (x : ℕ) → place_of ns x (evaluated z) ≡ nowhere (fault IndexNegative)
  unfolding place_of
  negative_place (pos n) h e ns x = absurd (omega (arith, ltb-true n 0 e))
  negative_place (negsuc n) h e ns x = rw (number_evaluated (negsuc n) h)

  pub index_negative : is_fault v ≡ false → lt_z v (pos 0) ≡ true → (r : ℤ) → evaluated r ≡ Err (fault IndexNegative) → Indexed size v r
  index_negative h e r k = refused_index r (fault IndexNegative) k (λ ns x s. negative_place v h e ns x)

  large_place : (z : ℤ) → is_fault z ≡ false → lt_z z (pos 0) ≡ false → size ≤ nat_abs z
      → (ns : List ℕ) (x : ℕ) → get_or ns x 0 ≡ size → place_of ns x (evaluated z) ≡ nowhere (fault IndexTooLarge)
  unfolding place_of
  large_place (pos n) h e k ns x s = rw (number_evaluated (pos n) h, le-ltb n (get_or ns x 0) (rw s k))
  large_place (negsuc n) h e k ns x s = absurd (true≢false e)

  pub index_large : is_fault v ≡ false → lt_z v (pos 0) ≡ false → size ≤ nat_abs v → (r : ℤ) → evaluated r ≡ Err (fault IndexTooLarge) → Indexed size v r
  index_large h e k r d = refused_index r (fault IndexTooLarge) d (large_place v h e k)

  -- an index inside
  inside_place : (z : ℤ) → is_fault z ≡ false → lt_z z (pos 0) ≡ false → nat_abs z < size
      → T (non_neg z) × ((ns : List ℕ) (x : ℕ) → get_or ns x 0 ≡ size → place_of ns x (evaluated z) ≡ at (first_cell ns x + nat_abs z))
  unfolding place_of
  inside_place (pos n) h e k = (tt, λ ns x s. rw (number_evaluated (pos n) h, lt-ltb n (get_or ns x 0) (rw s k)))
  inside_place (negsuc n) h e k = absurd (true≢false e)

  pub index_inside : is_fault v ≡ false → lt_z v (pos 0) ≡ false → nat_abs v < size → Indexed size v v
  index_inside h e k =
      let there = inside_place v h e k in
      record { below = λ f. (there.0, k); place = λ ns x s. there.1 ns x s ∙ sym (placed_at ns x v h) }
