-- Rows of verdicts, marks, lists and splits read back: two replies with the same row are the same. Of verdicts only where a refusal has a question's
-- number: 41 and a record are 41's row, and would be that of a question 41.
use Rattle.std.specs.Prelude.{Result, Err, Ok, Option}
use Rattle.std.proofs.Common.{◌≡◌, ℕ, ◌≤◌, cond, eqb, List, [], ◌∷◌, length, get_or, refl, ap, arith, ne_eqb}
use Rattle.program.specs.Asking.{Validity}
use Rattle.program.specs.declared.Construction.{Construction}
use Rattle.program.specs.declared.Refusal.{Refusal}
use Rattle.program.proofs.Never.{never}
use Rattle.program.proofs.Laws.{same_row, refusal_read, placed_ask, validity_placed}
use Rattle.program.proofs.Places.{Placed}
use Rattle.analysis.specs.Records.{both_whole, list_number, wrong_byte_numbers, unreadable_numbers}
use Rattle.analysis.specs.Solver.{solving_numbers, solved_numbers}
use Rattle.analysis.specs.Splitter.{split_numbers}
use Rattle.analysis.specs.Verdict.{verdict_by, verdict_unless_refused, unless_malformed, verdict_over, verdict, mark_numbers, verdict_numbers, marking_numbers}
use Rattle.analysis.specs.declared.Mark.{Mark}
use Rattle.analysis.specs.declared.Mark.TheVariants.{Clean, Unclean}
use Rattle.analysis.specs.declared.Unreadable.{Unreadable}
use Rattle.analysis.specs.declared.Unreadable.TheVariants.{Refused as Declined, Malformed as Misshapen}
use Rattle.analysis.specs.declared.RecordList.{RecordList}
use Rattle.analysis.specs.declared.RecordList.TheVariants.{Initial, Solution}
use Rattle.analysis.specs.declared.Solved.{Solved}
use Rattle.analysis.specs.declared.Solving.{Solving}
use Rattle.analysis.specs.declared.Solving.TheVariants.{Finished, Full}
use Rattle.analysis.specs.declared.Split.{Split}
use Rattle.analysis.specs.declared.Spot.{Spot}
use Rattle.analysis.specs.declared.Verdict.{Verdict}
use Rattle.analysis.specs.declared.Verdict.TheVariants.{InitialMissing, ResultMissing, Accepted}
use Rattle.analysis.specs.declared.WrongByte.{WrongByte}

-- the wrong byte of a row of 17
abbrev wrong_byte_read : List ℕ → WrongByte
wrong_byte_read l = record { list = cond (eqb (get_or l 1 0) 1) Initial Solution; offset = get_or l 2 0 }

-- ---- A verdict

-- a refusal of a verdict has a question's number
pub QuestionsOnly : Result Verdict Unreadable → Type 0
QuestionsOnly v = (x : Refusal) → v ≡ Err (Declined x) → x.number ≤ 30

abbrev verdict_read : List ℕ → Result Verdict Unreadable
verdict_read l =
    get_or
    (Ok (Accepted Clean)
    ∷ Ok (Accepted Clean)
    ∷ cond (eqb (get_or l 0 0) 41) (Ok (InitialMissing (get_or l 1 0))) (Err (Declined (refusal_read l)))
    ∷ cond (eqb (get_or l 0 0) 0)
    (Ok (Accepted (Unclean (get_or l 1 0) (get_or l 2 0))))
    (cond (eqb (get_or l 0 0) 17) (Err (Misshapen (wrong_byte_read l))) (Ok (ResultMissing (get_or l 1 0) (get_or l 2 0))))
    ∷ [])
    (length l)
    (Ok (Accepted Clean))

malformed_back : (list : RecordList) (at : ℕ) → let v : Result Verdict Unreadable = Err (Misshapen (record { list = list; offset = at })) in verdict_read (verdict_numbers v) ≡ v
unfolding verdict_numbers unreadable_numbers wrong_byte_numbers list_number
malformed_back Initial at = refl
malformed_back Solution at = refl

verdict_back : (v : Result Verdict Unreadable) → QuestionsOnly v → verdict_read (verdict_numbers v) ≡ v
unfolding verdict_numbers unreadable_numbers mark_numbers QuestionsOnly
verdict_back (Err (Declined x)) q = rw (ne_eqb x.number 41 (λ e. let few = q x refl in omega arith))
verdict_back (Err (Misshapen w)) q = malformed_back w.list w.offset
verdict_back (Ok (InitialMissing k)) q = refl
verdict_back (Ok (ResultMissing k e)) q = refl
verdict_back (Ok (Accepted Clean)) q = refl
verdict_back (Ok (Accepted (Unclean k e))) q = refl

pub verdict_row_lem : (v w : Result Verdict Unreadable) → QuestionsOnly v → QuestionsOnly w → verdict_numbers v ≡ verdict_numbers w → v ≡ w
verdict_row_lem v w p q = same_row verdict_numbers (λ l. verdict_read l) (verdict_back v p) (verdict_back w q)

-- a verdict's refusals are those of questions
unless_asked : (v : Validity) (w : Result Verdict Unreadable) {most : ℕ} → Placed most v → QuestionsOnly w → QuestionsOnly (verdict_unless_refused v w)
unfolding verdict_unless_refused QuestionsOnly
unless_asked (Ok _) w p q x e = q x e
unless_asked (Err y) w p q x e = let same : y ≡ x = cc in (p x (ap Err same)).asked

formed_asked : (list : RecordList) (v : Validity) (w : Result Verdict Unreadable) → QuestionsOnly w → QuestionsOnly (unless_malformed list v w)
unfolding unless_malformed QuestionsOnly
formed_asked list (Ok _) w q x e = q x e
formed_asked list (Err y) w q x e = never cc

found_asked : (f : Option ℕ) (spot : Option Spot) (mark : Mark) → QuestionsOnly (Ok (verdict_by f spot mark))
unfolding QuestionsOnly
found_asked f spot mark x e = never cc

pub verdict_asked : (κ : Construction) (s initial solution : List ℕ) → QuestionsOnly (verdict κ s initial solution)
unfolding verdict verdict_over both_whole
verdict_asked κ s initial solution =
    unless_asked _ _ (validity_placed s)
    (unless_asked _ _ (placed_ask {most = 0} _ 16 0 tt (omega arith)) (formed_asked Initial _ _ (formed_asked Solution _ _ (found_asked _ _ _))))

-- ---- An index mark

abbrev marking_read : List ℕ → Result Mark Unreadable
marking_read l =
    get_or
    (Ok Clean
    ∷ Ok Clean
    ∷ Err (Declined (refusal_read l))
    ∷ cond (eqb (get_or l 0 0) 0) (Ok (Unclean (get_or l 1 0) (get_or l 2 0))) (Err (Misshapen (wrong_byte_read l)))
    ∷ [])
    (length l)
    (Ok Clean)

misshapen_back : (list : RecordList) (at : ℕ) → let m : Result Mark Unreadable = Err (Misshapen (record { list = list; offset = at })) in marking_read (marking_numbers m) ≡ m
unfolding marking_numbers unreadable_numbers wrong_byte_numbers list_number
misshapen_back Initial at = refl
misshapen_back Solution at = refl

marking_back : (m : Result Mark Unreadable) → marking_read (marking_numbers m) ≡ m
unfolding marking_numbers unreadable_numbers mark_numbers
marking_back (Err (Declined x)) = refl
marking_back (Err (Misshapen w)) = misshapen_back w.list w.offset
marking_back (Ok Clean) = refl
marking_back (Ok (Unclean k e)) = refl

pub marking_row : (m n : Result Mark Unreadable) → marking_numbers m ≡ marking_numbers n → m ≡ n
marking_row m n = same_row marking_numbers (λ l. marking_read l) (marking_back m) (marking_back n)

-- ---- A list solved, and a place split

abbrev solved_read : List ℕ → Result Solved Unreadable
solved_read l =
    get_or
    (Ok (record { solving = Full; count = 0 })
    ∷ Ok (record { solving = Full; count = 0 })
    ∷ Ok (record { solving = cond (eqb (get_or l 0 0) 0) Finished Full; count = get_or l 1 0 })
    ∷ Err (Declined (refusal_read l))
    ∷ Err (Misshapen (wrong_byte_read l))
    ∷ [])
    (length l)
    (Ok (record { solving = Full; count = 0 }))

unfit_back : (list : RecordList) (at : ℕ) → let r : Result Solved Unreadable = Err (Misshapen (record { list = list; offset = at })) in solved_read (solved_numbers r) ≡ r
unfolding solved_numbers unreadable_numbers wrong_byte_numbers list_number
unfit_back Initial at = refl
unfit_back Solution at = refl

ended_back : (x : Solving) (count : ℕ) → let r : Result Solved Unreadable = Ok (record { solving = x; count = count }) in solved_read (solved_numbers r) ≡ r
unfolding solved_numbers solving_numbers
ended_back Finished count = refl
ended_back Full count = refl

solved_back : (r : Result Solved Unreadable) → solved_read (solved_numbers r) ≡ r
unfolding solved_numbers unreadable_numbers
solved_back (Ok r) = ended_back r.solving r.count
solved_back (Err (Declined x)) = refl
solved_back (Err (Misshapen w)) = unfit_back w.list w.offset

pub solved_row : (q r : Result Solved Unreadable) → solved_numbers q ≡ solved_numbers r → q ≡ r
solved_row q r = same_row solved_numbers (λ l. solved_read l) (solved_back q) (solved_back r)

abbrev split_read : List ℕ → Result Split Refusal
split_read l =
    cond (eqb (length l) 3)
    (Ok (record { «record» = get_or l 1 0; column = get_or l 2 0 }))
    (Err (refusal_read l))

split_back : (x : Result Split Refusal) → split_read (split_numbers x) ≡ x
unfolding split_numbers
split_back (Ok x) = refl
split_back (Err x) = refl

pub split_row_lem : (x y : Result Split Refusal) → split_numbers x ≡ split_numbers y → x ≡ y
split_row_lem x y = same_row split_numbers (λ l. split_read l) (split_back x) (split_back y)
