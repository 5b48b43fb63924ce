-- The third term, of what was returned and written.
use mathlib.Core.Path.{◌≡◌, refl, ap}
use mathlib.Core.List.{List, map}
use Prim.Native.Nat.{ℕ, ◌<◌}
use native.Mathlib.Omega.{arith}
use lib.IntN.{ℤ, pos, nat_abs}
use lib.Signed.{mag}
use mir.Syntax.{w32}
use mir.Val.{to_z, of_z}
use mir.ValLaws.{to_z-of_z}
use Rattle.std.specs.Prelude.{Result, Ok, Err}
use Rattle.signs.specs.Number.{equal}
use Rattle.analysis.specs.Soundness.{ThirdTermFor}
use Rattle.analysis.specs.declared.Mark.{Mark}
use Rattle.analysis.specs.declared.Mark.TheVariants.{Clean, Unclean}
use Rattle.analysis.specs.declared.Unreadable.{Unreadable}
use Rattle.analysis.specs.declared.Unreadable.TheVariants.{Refused, Malformed}
use Rattle.analysis.specs.declared.Verdict.{Verdict}
use Rattle.analysis.specs.declared.Verdict.TheVariants.{InitialMissing, ResultMissing, Accepted}
use Rattle.desk.specs.Accepting.{mark_in, ThirdTermTold}
use Rattle.desk.specs.Parts.Heads.{unreadable_head, verdict_head, verdict_behind}
use Rattle.desk.specs.Reply.{none, answered_with, refused_with, malformed_with, tell, over_at}
use Rattle.program.proofs.Never.{never}
use Rattle.desk.proofs.Places.{VerdictTold}
use Rattle.program.specs.declared.Construction.{Construction}

-- nothing is told where the reply is too short
pub short_third : (κ : Construction) (s initial solution : List ℕ) (reply : List ℤ) → ThirdTermTold κ s initial solution none reply
unfolding ThirdTermTold
short_third κ s initial solution reply returned = never (cc)

-- the row of an accepted sheet tells its index mark
mark_in_lem : (names : ℕ) (mark : Mark) (reply : List ℤ) → mark_in (over_at 0 (tell (verdict_head (Ok (Accepted mark))) (map pos (verdict_behind names (Ok (Accepted mark))))).row reply) ≡ mark
unfolding mark_in equal over_at tell answered_with verdict_head verdict_behind
mark_in_lem names Clean reply = refl
mark_in_lem names (Unclean k e) reply = refl

-- a call returns 0 with the answer 0 where the sheet is accepted, and only there
row_third : (κ : Construction) (s initial solution : List ℕ) (names : ℕ) (reply : List ℤ) (v : Result Verdict Unreadable) → VerdictTold v → ThirdTermFor κ s initial solution v
    → ThirdTermTold κ s initial solution (pos (tell (verdict_head v) (map pos (verdict_behind names v))).status) (over_at 0 (tell (verdict_head v) (map pos (verdict_behind names v))).row reply)
unfolding ThirdTermFor ThirdTermTold over_at tell answered_with refused_with malformed_with verdict_head unreadable_head verdict_behind
row_third κ s initial solution names reply (Err (Refused x)) told third returned answer = absurd (omega (arith, (told.refused x refl).numbered, ap nat_abs returned))
row_third κ s initial solution names reply (Err (Malformed w)) told third returned answer = absurd (omega (arith, ap nat_abs returned))
row_third κ s initial solution names reply (Ok (InitialMissing k)) told third returned answer = absurd (omega (arith, ap nat_abs answer))
row_third κ s initial solution names reply (Ok (ResultMissing k e)) told third returned answer = absurd (omega (arith, ap nat_abs answer))
row_third κ s initial solution names reply (Ok (Accepted mark)) told third returned answer = rw (mark_in_lem names mark reply) (third mark refl)

-- of what a call returned and wrote
pub written_third : (κ : Construction) (s initial solution : List ℕ) (names : ℕ) (reply : List ℤ) {after : List ℤ} {v : Result Verdict Unreadable} {r : ℤ} → mag r < 2147483648 → VerdictTold v → ThirdTermFor κ s initial solution v
    → (r ≡ pos (tell (verdict_head v) (map pos (verdict_behind names v))).status) × (after ≡ over_at 0 (tell (verdict_head v) (map pos (verdict_behind names v))).row reply)
    → ThirdTermTold κ s initial solution (to_z w32 (of_z w32 r)) after
written_third κ s initial solution names reply {after} {v} {r} ok told third w =
    rw (to_z-of_z w32 r (record { sfits = ok }), w.0, w.1) (row_third κ s initial solution names reply v told third)
