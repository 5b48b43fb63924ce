-- A reply that is too short, and one that has room.
use mathlib.Core.Path.{◌≡◌, refl, sym, ap, ◌∙◌}
use mathlib.Core.List.{List, [], ◌++◌}
use Prim.Native.Nat.{ℕ, ◌+◌, ◌≤◌, ◌<◌}
use native.Mathlib.Omega.{arith}
use borrow.Author.Tests.{le-leb, lt-leb}
use lib.IntN.{ℤ, pos}
use lib.ListN.{length}
use lib.Signed.{mag}
use mir.Syntax.{w32}
use mir.Val.{to_z, of_z}
use mir.ValLaws.{to_z-of_z}
use Rattle.desk.specs.Reply.{Told, none, answered_with, refused_with, malformed_with, tell, unless_short, over_at, returned, replied, Tells}
use Rattle.desk.proofs.Written.{over_then}
use Rattle.desk.specs.declared.Head.{Head}
use Rattle.desk.specs.declared.Head.TheVariants.{Answered, Refused, Malformed}

module _ (room : ℕ) (reply : List ℤ) (short : length reply < room) where
  -- the other buffers stay
  pub short_kept : {A : Type 0} (after before : A) → before ≡ unless_short room reply after before
  unfolding unless_short
  short_kept after before = rw (lt-leb _ _ short)

  -- and so does the reply
  pub short_told : (t : Told) → Tells room t reply none reply
  unfolding returned replied
  short_told t = record { returns = short_kept _ _; reply = short_kept _ _ }

module _ (room : ℕ) (reply : List ℤ) (roomy : room ≤ length reply) where
  pub roomy_kept : {A : Type 0} (after before : A) → after ≡ unless_short room reply after before
  unfolding unless_short
  roomy_kept after before = rw (le-leb _ _ roomy)

  -- the row over its front, where that was written
  pub roomy_told : {t u : Told} {r : ℤ} {after : List ℤ} → t ≡ u → r ≡ pos u.status → after ≡ over_at 0 u.row reply → Tells room t reply r after
  unfolding returned replied
  roomy_told same e f = rw same (record { returns = e ∙ roomy_kept _ _; reply = f ∙ roomy_kept _ _ })

-- numbers behind a head: the return value is the head's, and they follow its three
pub tell_status : (h : Head) (rest : List ℤ) → (tell h rest).status ≡ (tell h []).status
unfolding tell answered_with refused_with malformed_with
tell_status (Answered a) rest = refl
tell_status (Refused q place) rest = refl
tell_status (Malformed list place) rest = refl

pub tell_row : (h : Head) (rest : List ℤ) → (tell h []).row ++ rest ≡ (tell h rest).row
unfolding tell answered_with refused_with malformed_with
tell_row (Answered a) rest = refl
tell_row (Refused q place) rest = refl
tell_row (Malformed list place) rest = refl

pub tell_three : (h : Head) → length (tell h []).row ≡ 3
unfolding tell answered_with refused_with malformed_with
tell_three (Answered a) = refl
tell_three (Refused q place) = refl
tell_three (Malformed list place) = refl

-- so is what was put: the head, and then the numbers
pub put_behind : (head : Head) (rest reply : List ℤ) {a b : List ℤ} {r : ℤ} → 3 + length rest ≤ length reply → mag r < 2147483648
    → (r ≡ pos (tell head []).status) × (a ≡ over_at 0 (tell head []).row reply) → b ≡ over_at 3 rest a
    → (to_z w32 (of_z w32 r) ≡ pos (tell head rest).status) × (b ≡ over_at 0 (tell head rest).row reply)
put_behind head rest reply {a} {b} {r} room ok put behind =
    let three = tell_three head in (
      to_z-of_z w32 r (record { sfits = ok }) ∙ put.0 ∙ ap pos (sym (tell_status head rest)),
      behind
          ∙ ap (over_at 3 rest) put.1
          ∙ ap (λ n. over_at n rest (over_at 0 (tell head []).row reply)) (omega (arith, three))
          ∙ over_then 0 (tell head []).row rest reply (omega (arith, three))
          ∙ ap (λ row. over_at 0 row reply) (tell_row head rest),
    )

-- what a call tells, by how it went and the numbers behind
pub told_by : {room : ℕ} {reply : List ℤ} → room ≤ length reply → (rest : List ℤ) {h k : Head} {t : Told} {r : ℤ} {after : List ℤ}
    → mag r < 2147483648 → t ≡ tell k rest → h ≡ k → (r ≡ pos (tell h rest).status) × (after ≡ over_at 0 (tell h rest).row reply)
    → Tells room t reply (to_z w32 (of_z w32 r)) after
told_by {room} {reply} roomy rest ok e same w =
    roomy_told room reply roomy (e ∙ ap (λ (x : Head). tell x rest) (sym same)) (to_z-of_z w32 _ (record { sfits = ok }) ∙ w.0) w.1

-- the same by another name, of what a function returned
pub told_as : {room : ℕ} {t u : Told} {reply : List ℤ} {r : ℤ} {after : List ℤ} → t ≡ u → mag r < 2147483648 → Tells room u reply r after → Tells room t reply (to_z w32 (of_z w32 r)) after
told_as e ok w = rw (e, to_z-of_z w32 _ (record { sfits = ok })) w
