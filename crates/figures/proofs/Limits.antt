-- What the answers to the questions say in numbers: a fit list is short and its marks small, and small totals keep products in 64 bits.
use Rattle.std.specs.Prelude.{Ok}
use Prim.Native.Nat.{ℕ, ◌+◌, ◌≤◌, ◌<◌}
use mathlib.Core.Path.{◌≡◌}
use mathlib.Core.Bool.{Bool, true, ◌&&◌}
use mathlib.Core.List.{List, map}
use native.Mathlib.Nat.{mul-le-mul, le_trans, mul-le-mul_left}
use native.Mathlib.Omega.{arith}
use borrow.Author.Tests.{leb-true}
use lib.IntN.{ℤ, pos, neg_ℤ, nat_abs, ◌+ℤ◌, ◌-ℤ◌, ◌*ℤ◌}
use lib.Signed.{le_z}
use lib.ListN.{length, get_or, length-map, get_or-map}
use lib.Seq.{take-length}
use mir.Syntax.{w64}
use mir.Val.{SFits, to_z, of_z}
use mir.ValLaws.{to_z-of_z}
use Rattle.std.proofs.lemmas.Int.{to_z_pos}
use Rattle.signs.proofs.Signed as Signed
use Rattle.program.proofs.Laws.{ask_fit, then_first, then_second, each_fit}
use Rattle.program.proofs.Tests.{two, three}
use Rattle.figures.specs.Parts.Bounds.{Limited, Bounded}
use Rattle.figures.specs.Figures.{in_range, InRange, mark_validity, list_validity}
use Rattle.figures.specs.Totals.{longest, highest, highest_square, square, totals, joined, spread, countable, possible}
use Rattle.figures.specs.declared.Totals.{Totals}
use Rattle.figures.proofs.Integers.{between, not_beyond, upward, not_below_zero, within_each}
use Rattle.figures.proofs.Squares.{list_squares, list_spread, joined_spread}
use Rattle.figures.proofs.Sums.{AtMost, sum_most}

-- marks in the range are small
pub small_marks : (marks : List ℤ) → InRange marks → AtMost highest marks
unfolding in_range
small_marks marks within k h = let ends = two _ _ (within k h) in between highest (get_or marks k (pos 0)) ends.0 ends.1

pub record Counted (n : ℕ) : Type 0 where
  pub some : 1 ≤ n
  pub few : n ≤ longest

pub counted : (n : ℕ) → countable n ≡ true → Counted n
unfolding countable
counted n e = let ends = two _ _ e in record { some = leb-true 1 n ends.0; few = leb-true n longest ends.1 }

-- a fit list: its length, and its marks
module _ (marks : List ℤ) (fit : list_validity marks ≡ Ok tt) where
  pub fit_count : Counted (length marks)
  unfolding list_validity
  fit_count = counted (length marks) (ask_fit _ 23 0 (then_first _ _ fit))

  pub fit_in_range : InRange marks
  unfolding list_validity mark_validity
  fit_in_range k h = ask_fit _ 24 k (each_fit (length marks) (mark_validity marks) (then_second _ _ fit) k h)

  pub fit_marks : AtMost highest marks
  fit_marks = small_marks marks fit_in_range

-- squares of small marks
pub small_squares : (marks : List ℤ) → AtMost highest marks → AtMost highest_square (map square marks)
small_squares marks most k h =
    let x = get_or marks k (pos 0) in
    let below : k < length marks = omega (arith, length-map marks square) in
    rw (get_or-map square marks k (pos 0), Signed.product x x) (mul-le-mul (most k below) (most k below))

-- ---- Totals that a class can have, in magnitudes

pub record Possible (t : Totals) : Type 0 where
  pub limits : Limited t
  pub natural : le_z (pos 0) t.squares ≡ true
  pub spread : le_z (pos 0) (spread t) ≡ true

pub possible_told : (t : Totals) → possible t ≡ true → Possible t
unfolding possible
possible_told t e =
    let last = two _ _ e in
    let tests = four _ _ _ _ last.0 in
    record {
      limits = record { low = between _ t.sum tests.0 tests.1; small = upward _ t.squares tests.2 tests.3 };
      natural = tests.2;
      spread = last.1;
    }
  where
    four : (a b c d : Bool) → (a && b && c && d) ≡ true → (a ≡ true) × (b ≡ true) × (c ≡ true) × (d ≡ true)
    four a b c d h = let front = two (a && b && c) d h in let parts = three a b c front.0 in (parts.0, parts.1, parts.2, front.1)

pub possible_is : (t : Totals) → Possible t → possible t ≡ true
unfolding possible
possible_is t can =
    let sums = not_beyond _ t.sum can.limits.low in
    rw (sums.0, sums.1, can.natural, (not_beyond _ t.squares can.limits.small).1, can.spread)

-- those of a list of marks in the range, and those of two such classes joined
pub list_possible : (marks : List ℤ) → InRange marks → Possible (totals marks)
unfolding totals
list_possible marks within =
    let most = small_marks marks within in
    let squared = sum_most highest_square (map square marks) (small_squares marks most) (length (map square marks)) (omega arith) in
    record {
      limits = record {
        low = rw (take-length marks) at (sum_most highest marks most (length marks) (omega arith));
        small = rw (take-length (map square marks), length-map marks square) at squared;
      };
      natural = list_squares marks;
      spread = list_spread marks;
    }

joined_limits : (a b : Totals) → Limited a → Limited b → Limited (joined a b)
unfolding joined
joined_limits a b x y =
    record {
      low = within_each highest a.count b.count a.sum b.sum x.low y.low;
      small = within_each highest_square a.count b.count a.squares b.squares x.small y.small;
    }

pub joined_possible : (a b : Totals) → Possible a → Possible b → Possible (joined a b)
unfolding joined
joined_possible a b x y =
    record {
      limits = joined_limits a b x.limits y.limits;
      natural = not_below_zero a.squares b.squares x.natural y.natural;
      spread = joined_spread a b x.natural y.natural x.spread y.spread;
    }

-- ---- Totals that 64 bits hold

-- the two products of the spread, and the spread, of small totals
module _ (t : Totals) (b : Bounded t) where
  pub first_small : nat_abs (pos t.count *ℤ t.squares) ≤ 1677721600000000
  first_small =
      rw (Signed.product (pos t.count) t.squares)
      (mul-le-mul b.few (le_trans b.limits.small (mul-le-mul_left highest_square b.few)))

  pub second_small : nat_abs (square t.sum) ≤ 1677721600000000
  second_small =
      let most = le_trans b.limits.low (mul-le-mul_left highest b.few) in
      rw (Signed.product t.sum t.sum) (mul-le-mul most most)

  pub spread_small : nat_abs (spread t) ≤ 3355443200000000
  unfolding spread
  spread_small =
      let x = pos t.count *ℤ t.squares in
      omega (arith, first_small, second_small, Signed.sum x (neg_ℤ (square t.sum)), Signed.opposite (square t.sum))

-- small totals fit 64 bits, and so does what the machine works out of them
module _ (t : Totals) (b : Bounded t) where
  sum_fits : SFits w64 t.sum
  sum_fits = Signed.fits t.sum (omega (arith, b.limits.low, b.few))

  squares_fits : SFits w64 t.squares
  squares_fits = Signed.fits t.squares (omega (arith, b.limits.small, b.few))

  pub spread_fits : SFits w64 (spread t)
  spread_fits = Signed.fits (spread t) (omega (arith, spread_small t b))

  pub spread_read : to_z w64 (of_z w64 (to_z w64 t.count *ℤ to_z w64 (of_z w64 t.squares))) -ℤ to_z w64 (of_z w64 (to_z w64 (of_z w64 t.sum) *ℤ to_z w64 (of_z w64 t.sum))) ≡ spread t
  unfolding spread
  spread_read =
      rw (
        to_z_pos w64 t.count (omega (arith, b.few)),
        to_z-of_z w64 t.squares squares_fits,
        to_z-of_z w64 t.sum sum_fits,
        to_z-of_z w64 _ (Signed.fits (pos t.count *ℤ t.squares) (omega (arith, first_small t b))),
        to_z-of_z w64 _ (Signed.fits (square t.sum) (omega (arith, second_small t b))),
      )

-- which totals are small: those of a fit list, those that a class can have, and two such joined
pub fit_bounded : (marks : List ℤ) → list_validity marks ≡ Ok tt → Bounded (totals marks)
unfolding totals
fit_bounded marks fit = record { few = (fit_count marks fit).few; limits = (list_possible marks (fit_in_range marks fit)).limits }

pub possible_bounded : (t : Totals) → t.count ≤ longest → possible t ≡ true → Bounded t
possible_bounded t few e = record { few = few; limits = (possible_told t e).limits }

pub joined_bounded : (a b : Totals) → Bounded a → Bounded b → a.count + b.count ≤ longest → Bounded (joined a b)
unfolding joined
joined_bounded a b x y few = record { few = few; limits = joined_limits a b x.limits y.limits }

-- two joined, as the machine adds them
module _ (a b : Totals) (x : Bounded a) (y : Bounded b) (few : a.count + b.count ≤ longest) where
  sums_read : to_z w64 (of_z w64 a.sum) +ℤ to_z w64 (of_z w64 b.sum) ≡ (joined a b).sum
  unfolding joined
  sums_read = rw (to_z-of_z w64 a.sum (sum_fits a x), to_z-of_z w64 b.sum (sum_fits b y))

  squares_read : to_z w64 (of_z w64 a.squares) +ℤ to_z w64 (of_z w64 b.squares) ≡ (joined a b).squares
  unfolding joined
  squares_read = rw (to_z-of_z w64 a.squares (squares_fits a x), to_z-of_z w64 b.squares (squares_fits b y))

  pub sums_fit : SFits w64 (to_z w64 (of_z w64 a.sum) +ℤ to_z w64 (of_z w64 b.sum))
  sums_fit = rw sums_read (sum_fits (joined a b) (joined_bounded a b x y few))

  pub squares_fit : SFits w64 (to_z w64 (of_z w64 a.squares) +ℤ to_z w64 (of_z w64 b.squares))
  squares_fit = rw squares_read (squares_fits (joined a b) (joined_bounded a b x y few))

  pub joined_read : record {
    count = a.count + b.count;
    sum = to_z w64 (of_z w64 (to_z w64 (of_z w64 a.sum) +ℤ to_z w64 (of_z w64 b.sum)));
    squares = to_z w64 (of_z w64 (to_z w64 (of_z w64 a.squares) +ℤ to_z w64 (of_z w64 b.squares)));
  } ≡ joined a b
  unfolding joined
  joined_read = rw (to_z-of_z w64 _ sums_fit, sums_read, to_z-of_z w64 _ squares_fit, squares_read)
