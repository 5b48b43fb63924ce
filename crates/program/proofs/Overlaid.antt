-- Laws of numbers over a list from a place on.
use mathlib.Core.Path.{◌≡◌, sym, ◌∙◌, ap}
use mathlib.Core.List.{List, [], ◌∷◌, ◌++◌, append_assoc}
use Prim.Native.Nat.{ℕ, ◌+◌, ◌-◌, ◌≤◌, ◌<◌}
use borrow.Rule.Slice.PartMut.{put_mid}
use native.Mathlib.Numerals.{add-one}
use native.Mathlib.Omega.{arith}
use lib.ListN.{length, take, drop, set, get_or, length-append, length-drop, get_or-append}
use lib.Seq.{length-take-le, set_split, take_at, drop_at, drop-drop, sets, sets-eq, get_or-take, get_or-append-add}
use Rattle.program.specs.Drawing.{over}
use Rattle.program.specs.Parts.DrawingParts.{over_at}

module _ (buffer : List ℕ) where
  -- one number
  pub over_one : (at x : ℕ) → at < length buffer → set buffer at x ≡ over_at at (x ∷ []) buffer
  unfolding over over_at
  over_one at x h = rw (drop-drop, add-one) (set_split buffer at x h)

  -- numbers and then numbers
  pub over_two : (at : ℕ) (x y : List ℕ) → at ≤ length buffer → over_at (at + length x) y (over_at at x buffer) ≡ over_at at (x ++ y) buffer
  unfolding over over_at
  over_two at x y h =
      let p = take at buffer ++ x in
      let z = drop (length x) (drop at buffer) in
      let e : length p ≡ at + length x = length-append (take at buffer) x ∙ ap (λ k. k + length x) (length-take-le at buffer h) in
      let front : over_at at x buffer ≡ p ++ z = sym (append_assoc (take at buffer) x z) in
      ap (over_at (at + length x) y) front
      ∙ rw (take_at p z _ e, drop_at p z _ e, length-append x y, ← drop-drop (length y) (length x)) (simp append_assoc)

-- the same of three states of a buffer
pub over_then : (a : List ℕ) {b c : List ℕ} (at : ℕ) {next : ℕ} (x y : List ℕ) → at ≤ length a → b ≡ over_at at x a → next ≡ at + length x → c ≡ over_at next y b → c ≡ over_at at (x ++ y) a
over_then a at x y h first next second = second ∙ rw (next, first) (over_two a at x y h)

-- numbers stored one after the other
pub over_sets : (xs buffer : List ℕ) (at : ℕ) → at + length xs ≤ length buffer → sets buffer at xs ≡ over_at at xs buffer
unfolding over over_at
over_sets xs buffer at h = sets-eq xs buffer at h ∙ rw drop-drop (append_assoc (take at buffer) xs (drop (at + length xs) buffer))

-- numbers written over a part of a slice
pub over_part : (at end : ℕ) (xs ys buffer : List ℕ) → ys ≡ xs → end - at ≡ length xs → put_mid at (end - at) buffer ys ≡ over_at at xs buffer
unfolding over over_at
over_part at end xs ys buffer e h = rw (e, h)

-- what is before them stays
pub over_before : (at : ℕ) (xs buffer : List ℕ) (i : ℕ) → i < at → at ≤ length buffer → get_or (over_at at xs buffer) i 0 ≡ get_or buffer i 0
unfolding over_at
over_before at xs buffer i h l =
    get_or-append (take at buffer) _ 0 i (omega (arith, length-take-le at buffer l)) ∙ get_or-take at buffer i 0 h

-- they are there
pub over_inside : (at : ℕ) (xs buffer : List ℕ) (j : ℕ) → at ≤ length buffer → j < length xs → get_or (over_at at xs buffer) (at + j) 0 ≡ get_or xs j 0
unfolding over over_at
over_inside at xs buffer j h l =
    ap (λ (i : ℕ). get_or (take at buffer ++ (xs ++ drop (length xs) (drop at buffer))) (i + j) 0) (sym (length-take-le at buffer h))
    ∙ get_or-append-add (take at buffer) _ j 0 ∙ get_or-append xs _ 0 j l

-- and the list is as long as before
pub over_length : (at : ℕ) (xs buffer : List ℕ) → at + length xs ≤ length buffer → length (over_at at xs buffer) ≡ length buffer
unfolding over over_at
over_length at xs buffer h = simp (length-append, length-drop) (omega (arith, length-take-le at buffer (omega arith)))
