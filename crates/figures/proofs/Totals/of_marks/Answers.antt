-- `Totals::of_marks`: both totals are those of the marks passed over; each mark is small, so that no sum leaves 64 bits.
use Prim.Native.Nat.{◌*◌, ◌≤◌, ◌<◌}
use mathlib.Core.Path.{◌≡◌, refl}
use mathlib.Core.List.{map}
use native.Mathlib.Numerals.{add-one}
use native.Mathlib.Omega.{arith}
use borrow.Author.Rules.{rules}
use lib.IntN.{pos, ◌*ℤ◌}
use lib.ListN.{length, get_or, length-map, get_or-map}
use lib.Seq.{take-length}
use mir.Syntax.{w32}
use mir.Val.{SFits}
use Rattle.signs.proofs.Signed.{wide_is, wide_result, product_fits}
use Rattle.figures.specs.Totals.{highest, highest_square, sum_of, square, totals}
use Rattle.figures.proofs.Limits.{fit_count, fit_marks, small_squares}
use Rattle.figures.proofs.Sums.{next_fits, next_read}
use Rattle.figures.proofs.Totals.of_marks.Goals as goal
use Rattle.figures.proofs.Totals.of_marks.Goals.{After-mark-1}

pub loop-x-init : goal.loop-x-init
unfolding sum_of
loop-x-init c = (refl, refl)

-- at the mark at hand: what holds of a list that answers the questions well, and that the mark fits
module _ (c : After-mark-1) where
  room : highest * length c.args.marks.now ≤ 4611686018427387904
  room = omega (arith, (fit_count _ c.requires).few)

  square_room : highest_square * length (map square c.args.marks.now) ≤ 4611686018427387904
  square_room = rw length-map (omega (arith, (fit_count _ c.requires).few))

  fits : SFits w32 (get_or c.args.marks.now c.loop-x.x-index (pos 0))
  fits = search rules

  below : c.loop-x.x-index < length (map square c.args.marks.now)
  below = rw length-map c.loop-x-test.true

pub overflow_add-sum : goal.overflow_add-sum
overflow_add-sum c =
    let marks = c.args.marks.now in
    rw (wide_is _ (fits c)) (next_fits highest marks (fit_marks marks c.requires) (room c) c.loop-x.x-index c.loop-x-test.true c.loop-x.sum-bits c.loop-x.invariant.0)

pub overflow_add-squares : goal.overflow_add-squares
overflow_add-squares c =
    let marks = c.args.marks.now in
    rw (wide_result ◌*ℤ◌ (fits c) (fits c) (product_fits (fits c) (fits c)), ← get_or-map square marks c.loop-x.x-index (pos 0))
    (next_fits highest_square (map square marks) (small_squares marks (fit_marks marks c.requires)) (square_room c) c.loop-x.x-index (below c) c.loop-x.squares-bits c.loop-x.invariant.1)

pub loop-x-preserved : goal.loop-x-preserved
loop-x-preserved c =
    let marks = c.args.marks.now in (
      rw (wide_is _ (fits c), add-one)
          (next_read highest marks (fit_marks marks c.requires) (room c) c.loop-x.x-index c.loop-x-test.true c.loop-x.sum-bits c.loop-x.invariant.0),
      rw (wide_result ◌*ℤ◌ (fits c) (fits c) (product_fits (fits c) (fits c)), ← get_or-map square marks c.loop-x.x-index (pos 0), add-one)
          (next_read highest_square (map square marks) (small_squares marks (fit_marks marks c.requires)) (square_room c) c.loop-x.x-index (below c) c.loop-x.squares-bits c.loop-x.invariant.1),
    )

pub overflow_cast-result : goal.overflow_cast-result
overflow_cast-result c = omega (arith, (fit_count _ c.requires).few)

pub returns : goal.returns
unfolding totals
returns c =
    let marks = c.args.marks.now in
    let all : c.loop-x.x-index ≡ length marks = omega arith in
    rw (c.loop-x.invariant.0, c.loop-x.invariant.1, all, take-length marks, ← length-map marks square, take-length (map square marks))
