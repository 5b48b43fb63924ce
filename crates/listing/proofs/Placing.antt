-- Texts put into a buffer one after the other.
use mathlib.Core.Path.{◌≡◌, sym, ap, ◌∙◌}
use mathlib.Core.List.{List, [], ◌∷◌, ◌++◌, append-nil, flat_map}
use Prim.Native.Nat.{ℕ, zero, suc, ◌+◌, ◌≤◌, ◌<◌}
use native.Mathlib.Decide.{ℕ_discrete}
use native.Mathlib.Nat.{le_refl}
use native.Mathlib.Omega.{arith}
use lib.ListN.{length, get_or, drop, length-append, take-append-drop}
use lib.Seq.{ext_get_or}
use Rattle.signs.specs.Lists.{tabulate}
use Rattle.program.specs.Drawing.{over}
use Rattle.program.specs.Parts.DrawingParts.{over_at}
use Rattle.program.proofs.Lists.{concat_append, length_tabulate, get_or_tabulate}
use Rattle.program.proofs.Overlaid.{over_then, over_length}
use Rattle.listing.specs.Parts.Writing.{Room, Put}

-- a text that is another one and then a third
module _ {at : ℕ} {s : List ℕ} (a b : List ℕ) (room : Room at (a ++ b) s) where
  sized : length (a ++ b) ≡ length a + length b
  sized = length-append a b

  -- the first part has room, and after it so has the second
  pub room_first : Room at a s
  room_first = record { fits = omega (arith, sized, room.fits) }

  pub room_then : {t : List ℕ} {p : ℕ} → Put at a s t p → Room p b t
  room_then w = record { fits = rw (w.place, w.bytes) (rw (over_length at a s room_first.fits) (omega (arith, sized, room.fits))) }

  -- and they are one
  pub put_then : {t u : List ℕ} {p q : ℕ} → Put at a s t p → Put p b t u q → Put at (a ++ b) s u q
  put_then v w =
      record {
        place = omega (arith, v.place, w.place, sized);
        bytes = over_then s at a b (omega (arith, room.fits)) v.bytes v.place w.bytes;
      }

-- of three parts
module _ {at : ℕ} {s : List ℕ} (a b c : List ℕ) (room : Room at (a ++ b ++ c) s) where
  two : Room at (a ++ b) s
  two = room_first (a ++ b) c room

  pub three_first : Room at a s
  three_first = room_first a b two

  pub three_second : {t : List ℕ} {p : ℕ} → Put at a s t p → Room p b t
  three_second = room_then a b two

  pub three_third : {t u : List ℕ} {p q : ℕ} → Put at a s t p → Put p b t u q → Room q c u
  three_third v w = room_then (a ++ b) c room (put_then a b two v w)

  pub put_three : {t u x : List ℕ} {p q r : ℕ} → Put at a s t p → Put p b t u q → Put q c u x r → Put at (a ++ b ++ c) s x r
  put_three v w y = put_then (a ++ b) c room (put_then a b two v w) y

-- of four parts
module _ {at : ℕ} {s : List ℕ} (a b c d : List ℕ) (room : Room at (a ++ b ++ c ++ d) s) where
  pub four_three : Room at (a ++ b ++ c) s
  four_three = room_first (a ++ b ++ c) d room

  pub four_fourth : {t u x : List ℕ} {p q r : ℕ} → Put at a s t p → Put p b t u q → Put q c u x r → Room r d x
  four_fourth v w y = room_then (a ++ b ++ c) d room (put_three a b c four_three v w y)

  pub put_four : {t u x y : List ℕ} {p q r e : ℕ} → Put at a s t p → Put p b t u q → Put q c u x r → Put r d x y e → Put at (a ++ b ++ c ++ d) s y e
  put_four v w y z = put_then (a ++ b ++ c) d room (put_three a b c four_three v w y) z

-- of what a function gives at 0, 1, … n - 1, one after the other
module _ {A : Type 0} (f : A → List ℕ) (g : ℕ → A) where
  pub texts_next : (n : ℕ) → flat_map f (tabulate (suc n) g) ≡ flat_map f (tabulate n g) ++ f (g n)
  unfolding tabulate flat_map
  texts_next n = concat_append f (tabulate n g) (g n ∷ []) ∙ ap (λ text. flat_map f (tabulate n g) ++ text) (append-nil (f (g n)))

  texts_less : (k n : ℕ) → k ≤ n → length (flat_map f (tabulate k g)) ≤ length (flat_map f (tabulate n g))
  texts_less k zero h = ap_le (omega arith)
    where
      ap_le : k ≡ 0 → length (flat_map f (tabulate k g)) ≤ length (flat_map f (tabulate 0 g))
      ap_le e = rw e (le_refl _)
  texts_less k (suc n) h =
      elim (ℕ_discrete k (suc n)) [
        | yes e ↦ rw e (le_refl _)
        | no d ↦ rw (texts_next n, length-append (flat_map f (tabulate n g)) (f (g n))) (omega (arith, texts_less k n (omega arith)))
      ]

  -- none yet
  pub put_none : (at : ℕ) (s : List ℕ) → Put at (flat_map f (tabulate 0 g)) s s at
  unfolding tabulate flat_map over_at over
  put_none at s = record { place = omega arith; bytes = sym (take-append-drop at s) }

  module _ {at n k : ℕ} {s : List ℕ} (room : Room at (flat_map f (tabulate n g)) s) (h : k < n) where
    up_to : Room at (flat_map f (tabulate k g) ++ f (g k)) s
    up_to = record { fits = rw (← texts_next k) (omega (arith, room.fits, texts_less (suc k) n h)) }

    -- there is room for the next, and then it is put too
    pub room_next : {t : List ℕ} {p : ℕ} → Put at (flat_map f (tabulate k g)) s t p → Room p (f (g k)) t
    room_next = room_then (flat_map f (tabulate k g)) (f (g k)) up_to

    pub put_next : {t u : List ℕ} {p q : ℕ} → Put at (flat_map f (tabulate k g)) s t p → Put p (f (g k)) t u q → Put at (flat_map f (tabulate (suc k) g)) s u q
    put_next v w = rw (texts_next k) (put_then (flat_map f (tabulate k g)) (f (g k)) up_to v w)

-- a list is what it has at 0, 1, … in turn
pub listed_at : (l : List ℕ) → tabulate (length l) (λ i. get_or l i 0) ≡ l
listed_at l =
    ext_get_or 0 _ l (length_tabulate (length l) (λ i. get_or l i 0))
    (λ i h. get_or_tabulate (length l) (λ i. get_or l i 0) i 0 (omega (arith, length_tabulate (length l) (λ i. get_or l i 0))))

module _ (f : ℕ → List ℕ) (l : List ℕ) {at : ℕ} {s : List ℕ} where
  pub room_list : Room at (flat_map f l) s → Room at (flat_map f (tabulate (length l) (λ i. get_or l i 0))) s
  room_list room = rw (listed_at l) room

  pub put_list : {i p : ℕ} {t : List ℕ} → i ≡ length l → Put at (flat_map f (tabulate i (λ i. get_or l i 0))) s t p → Put at (flat_map f l) s t p
  put_list e v = rw (e, listed_at l) at v

-- the buffer is as long as before
pub put_length : {at p : ℕ} {text s t : List ℕ} → Room at text s → Put at text s t p → length t ≡ length s
put_length {at} {p} {text} {s} room v = ap length v.bytes ∙ over_length at text s room.fits

-- from the start on
pub put_over : {n : ℕ} {text s t : List ℕ} → Put 0 text s t n → (n ≡ length text) × (t ≡ over text s)
unfolding over_at
put_over v = (omega (arith, v.place), v.bytes)

pub over_long : (text s : List ℕ) → length text ≤ length (over text s)
unfolding over
over_long text s = omega (arith, length-append text (drop (length text) s))

-- the same by another name
pub room_as : {at : ℕ} {text same s : List ℕ} → text ≡ same → Room at same s → Room at text s
room_as e room = rw e room

pub put_as : {at p : ℕ} {text same s t : List ℕ} → text ≡ same → Put at text s t p → Put at same s t p
put_as e v = rw e at v
