-- The offending record lies inside its list.
use Rattle.program.specs.Asking.{Validity}
use Rattle.std.specs.Prelude.{Result, Err, Ok, None, Option, Some, is_some}
use Rattle.analysis.proofs.Accepted.{none_only}
use mathlib.Core.Path.{◌≡◌, refl, sym, ◌∙◌, ap}
use mathlib.Core.Bool.{Bool}
use mathlib.Core.List.{List, map}
use Prim.Native.Nat.{ℕ, ◌+◌, ◌/◌, ◌≤◌, ◌<◌}
use native.Mathlib.Omega.{arith}
use lib.IntN.{pos}
use lib.ListN.{length}
use Rattle.program.specs.File.{sizes}
use Rattle.program.specs.Graph.{Graph, graph}
use Rattle.program.specs.declared.Construction.{Construction}
use Rattle.program.specs.Questions.{validity}
use Rattle.program.proofs.Laws.{sizes_length, first_found, such_first}
use Rattle.analysis.specs.Records.{initial_width, record_width, record_count, record_at}
use Rattle.analysis.specs.Verdict.{missing_initial, spot_at, first_spot, missing_result, verdict_by, verdict_unless_refused, unless_malformed, verdict_over, verdict, verdict_row, offending}
use Rattle.analysis.specs.declared.Mark.{Mark}
use Rattle.analysis.specs.declared.Mark.TheVariants.{Clean, Unclean}
use Rattle.analysis.specs.declared.RecordList.{RecordList}
use Rattle.analysis.specs.declared.Spot.{Spot}
use Rattle.analysis.specs.declared.Unreadable.{Unreadable}
use Rattle.analysis.specs.declared.Unreadable.TheVariants.{Refused as Unasked, Malformed as Unfit}
use Rattle.analysis.specs.declared.Verdict.{Verdict}
use Rattle.analysis.specs.declared.Verdict.TheVariants.{InitialMissing, ResultMissing, Accepted}
use Rattle.desk.specs.Parts.Heads.{unreadable_head, verdict_head, verdict_behind}
use Rattle.desk.specs.Reply.{answered_with, refused_with, malformed_with, tell}
use Rattle.desk.specs.Rows.{told_at, judged, list_named, part_named}
use Rattle.program.proofs.Never.{never}
use Rattle.desk.proofs.Heads.{verdict_head_lem}
use Rattle.desk.proofs.Places.{record_inside, verdict_told_lem}

-- what the verdict's call tells, by the verdict
told_as_verdict : (κ : Construction) (s initial solution : List ℕ)
    → judged κ s initial solution ≡ tell (verdict_head (verdict κ s initial solution)) (map pos (verdict_behind (length (sizes s)) (verdict κ s initial solution)))
unfolding judged verdict_row
told_as_verdict κ s initial solution = rw (← sizes_length s) (verdict_head_lem _ _ (verdict_told_lem κ s initial solution))

-- a row names the record itself
pub offending_part : (κ : Construction) (s initial solution : List ℕ) → part_named initial solution (judged κ s initial solution) ≡ offending (sizes s) initial solution (verdict κ s initial solution)
unfolding part_named list_named offending record_at initial_width record_width tell answered_with refused_with malformed_with verdict_head unreadable_head verdict_behind
offending_part κ s initial solution = rw (told_as_verdict κ s initial solution) (by (verdict κ s initial solution))
  where
    by : (v : Result Verdict Unreadable) → part_named initial solution (tell (verdict_head v) (map pos (verdict_behind (length (sizes s)) v))) ≡ offending (sizes s) initial solution v
    by (Err (Unasked x)) = refl
    by (Err (Unfit w)) = refl
    by (Ok (InitialMissing k)) = refl
    by (Ok (ResultMissing k e)) = refl
    by (Ok (Accepted Clean)) = refl
    by (Ok (Accepted (Unclean k e))) = refl

-- a verdict names records that are there
record Named (initials solutions : ℕ) (v : Result Verdict Unreadable) : Type 0 where
  first : (k : ℕ) → v ≡ Ok (InitialMissing k) → k < initials
  later : (k e : ℕ) → v ≡ Ok (ResultMissing k e) → k < solutions

module _ (initials solutions : ℕ) where
  unless_named : (x : Validity) (v : Result Verdict Unreadable) → Named initials solutions v → Named initials solutions (verdict_unless_refused x v)
  unfolding verdict_unless_refused
  unless_named (Ok _) v p = p
  unless_named (Err x) v p =
      record {
        first = λ k e. never (cc);
        later = λ k a e. never (cc);
      }

  formed_named : (list : RecordList) (x : Validity) (v : Result Verdict Unreadable) → Named initials solutions v → Named initials solutions (unless_malformed list x v)
  unfolding unless_malformed
  formed_named list (Ok _) v p = p
  formed_named list (Err x) v p =
      record {
        first = λ k e. never (cc);
        later = λ k a e. never (cc);
      }

  found_named : (f : Option ℕ) (spot : Option Spot) (mark : Mark) → ((k : ℕ) → f ≡ Some k → k < initials) → ((x : Spot) → spot ≡ Some x → x.«record» < solutions)
      → Named initials solutions (Ok (verdict_by f spot mark))
  unfolding verdict_by
  found_named (Some j) spot mark p q =
      record {
        first = λ k e. p k (let same : j ≡ k = cc in ap Some same);
        later = λ k a e. never (cc);
      }
  found_named None (Some x) mark p q =
      record {
        first = λ k e. never (cc);
        later = λ k a e. let same : x.«record» ≡ k = cc in rw (← same) (q x refl);
      }
  found_named None None mark p q =
      record {
        first = λ k e. never (cc);
        later = λ k a e. never (cc);
      }

-- 41 and 42 are found among the records
at_same : (j : ℕ) (f : Option ℕ) (x : Spot) → spot_at j f ≡ Some x → j ≡ x.«record»
unfolding spot_at
at_same j (Some a) x p = let same : record { «record» = j; edge = a } ≡ x = cc in ap (λ (y : Spot). y.«record») same
at_same j None x p = never (cc)

spot_there : (ns : List ℕ) (g : Graph) (solution : List ℕ) (picks : List ℕ → ℕ → Bool) (x : Spot) → first_spot ns g solution picks ≡ Some x
    → x.«record» < record_count (record_width ns) solution
unfolding first_spot
spot_there ns g solution picks x p =
    let found = first_found is_some None refl none_only _ _ (ap is_some p) in
    let same = at_same found.at _ x (sym found.answer ∙ p) in
    omega (arith, found.below)

over_named : (ns : List ℕ) (g : Graph) (initial solution : List ℕ)
    → Named (record_count (initial_width ns) initial) (record_count (record_width ns) solution) (verdict_over ns g initial solution)
unfolding verdict_over missing_initial missing_result
over_named ns g initial solution =
    unless_named _ _ _ _
    (formed_named _ _ _ _ _
    (formed_named _ _ _ _ _ (found_named _ _ _ _ _ (λ k e. (such_first _ _ k e).below) (λ x p. spot_there ns g solution _ x p))))

-- so the part that a row names lies inside its list
pub offending_inside : (κ : Construction) (s initial solution : List ℕ) → let t = judged κ s initial solution in told_at t 5 + told_at t 6 ≤ length (list_named initial solution (told_at t 0))
unfolding list_named verdict record_count initial_width record_width tell answered_with refused_with malformed_with verdict_head unreadable_head verdict_behind
offending_inside κ s initial solution =
    rw (told_as_verdict κ s initial solution)
    (by (verdict κ s initial solution) refl (unless_named _ _ (validity s) _ (over_named (sizes s) (graph κ s) initial solution)))
  where
    by : (v : Result Verdict Unreadable) → verdict κ s initial solution ≡ v → Named (length initial / length (sizes s)) (length solution / (2 + length (sizes s))) (verdict κ s initial solution)
        → (let t = tell (verdict_head v) (map pos (verdict_behind (length (sizes s)) v)) in told_at t 5 + told_at t 6 ≤ length (list_named initial solution (told_at t 0)))
    by (Err (Unasked x)) e named = omega arith
    by (Err (Unfit w)) e named = omega arith
    by (Ok (InitialMissing k)) e named = record_inside (length (sizes s)) (length initial) k (named.first k e)
    by (Ok (ResultMissing k a)) e named = record_inside (2 + length (sizes s)) (length solution) k (named.later k a e)
    by (Ok (Accepted Clean)) e named = omega arith
    by (Ok (Accepted (Unclean k a))) e named = omega arith
