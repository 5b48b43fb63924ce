-- Rows of steps and runs read back: two replies with the same row are the same.
use mathlib.Core.Path.{◌≡◌, refl}
use mathlib.Core.Bool.{cond}
use mathlib.Core.List.{List, [], ◌∷◌}
use Prim.Native.Nat.{ℕ}
use lib.Dec.{eqb}
use lib.ListN.{length, get_or}
use Rattle.signs.specs.Number.{reason_number}
use Rattle.signs.specs.declared.Reason.{Reason}
use Rattle.signs.specs.declared.Reason.TheVariants.{ConditionFalse, DivisorZero, ExponentNegative, IndexNegative, IndexTooLarge, OutOfRange}
use Rattle.program.proofs.Laws.{same_row, refusal_read}
use Rattle.semantics.specs.Budget.{ending_numbers, ended_numbers}
use Rattle.semantics.specs.Expression.{fault_number}
use Rattle.semantics.specs.Parts.Coding.{reason_numbered}
use Rattle.semantics.specs.Step.{outcome_numbers, stepped_numbers}
use Rattle.semantics.specs.declared.Ended.{Ended}
use Rattle.semantics.specs.declared.Ending.{Ending}
use Rattle.semantics.specs.declared.Ending.TheVariants.{Arrived, Spent, Stuck, Refused as Ends}
use Rattle.semantics.specs.declared.Outcome.{Outcome}
use Rattle.semantics.specs.declared.Outcome.TheVariants.{Taken, Undefined as Stays, Refused as Refuses}
use Rattle.semantics.specs.declared.Run.{Run}
use Rattle.semantics.specs.declared.Stepped.{Stepped}

-- the run that a row ends with, from a place on
abbrev run_read : List ℕ → ℕ → ℕ → Run
run_read l i j = record { node = get_or l i 0; count = get_or l j 0 }

abbrev stepped_read : List ℕ → Stepped
stepped_read l =
    cond (eqb (length l) 3)
    (record { run = run_read l 1 2; outcome = cond (eqb (get_or l 0 0) 0) Taken (Stays (record { reason = reason_numbered (get_or l 0 0) })) })
    (record { run = run_read l 2 3; outcome = Refuses (refusal_read l) })

stays_back : (run : Run) (r : Reason) → let s : Stepped = record { run = run; outcome = Stays (record { reason = r }) } in stepped_read (stepped_numbers s) ≡ s
unfolding stepped_numbers outcome_numbers fault_number reason_number reason_numbered
stays_back run ConditionFalse = refl
stays_back run DivisorZero = refl
stays_back run ExponentNegative = refl
stays_back run IndexNegative = refl
stays_back run IndexTooLarge = refl
stays_back run OutOfRange = refl

stepped_back : (run : Run) (o : Outcome) → let s : Stepped = record { run = run; outcome = o } in stepped_read (stepped_numbers s) ≡ s
unfolding stepped_numbers outcome_numbers
stepped_back run Taken = refl
stepped_back run (Stays f) = stays_back run f.reason
stepped_back run (Refuses x) = refl

pub stepped_row : (r s : Stepped) → stepped_numbers r ≡ stepped_numbers s → r ≡ s
stepped_row r s = same_row stepped_numbers (λ l. stepped_read l) (stepped_back r.run r.outcome) (stepped_back s.run s.outcome)

abbrev ended_read : List ℕ → Ended
ended_read l =
    cond (eqb (length l) 3)
    (record { run = run_read l 1 2; ending = get_or (Arrived ∷ Spent ∷ Stuck ∷ []) (get_or l 0 0) Arrived })
    (record { run = run_read l 2 3; ending = Ends (refusal_read l) })

ended_back : (run : Run) (x : Ending) → let e : Ended = record { run = run; ending = x } in ended_read (ended_numbers e) ≡ e
unfolding ended_numbers ending_numbers
ended_back run Arrived = refl
ended_back run Spent = refl
ended_back run Stuck = refl
ended_back run (Ends x) = refl

pub ended_row : (d e : Ended) → ended_numbers d ≡ ended_numbers e → d ≡ e
ended_row d e = same_row ended_numbers (λ l. ended_read l) (ended_back d.run d.ending) (ended_back e.run e.ending)
