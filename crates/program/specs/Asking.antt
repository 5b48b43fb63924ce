-- Questions asked in order, and what the first "no" answers (document 01, "Questions asked, with the number when it is no").
use Rattle.std.specs.Prelude.{ℕ, Bool, true, false, cond, List, [], ◌∷◌, Result, Ok, Err}
use Rattle.program.specs.FirstSuch.{first_of}
use Rattle.program.specs.declared.Refusal.{Refusal}

-- the answer to questions: yes to all, or the first "no"
abbrev pub Validity : Type 0
Validity = Result (Unit {0}) Refusal

-- a question: its answer, and its number and place when that is no
unfoldable pub ask : Bool → ℕ → ℕ → Validity
ask yes? n at = cond yes? (Ok tt) (Err (record { number = n; offset = at }))

-- a question that has no place: its place is 0
abbrev pub ask_plain : Bool → ℕ → Validity
ask_plain yes? n = ask yes? n 0

-- "The first 'no' ends the asking": what comes later is asked only where all before was answered yes
unfoldable pub then_ask : Validity → Validity → Validity
then_ask (Ok _) later = later
then_ask (Err x) later = Err x

-- whether an answer is a refusal
unfoldable pub is_refused : Validity → Bool
is_refused (Ok _) = false
is_refused (Err x) = true

-- questions in turn
unfoldable pub in_turn : List Validity → Validity
in_turn [] = Ok tt
in_turn (x ∷ xs) = then_ask x (in_turn xs)

-- what is asked of 0, 1, … n - 1, in turn
unfoldable pub ask_each : ℕ → (ℕ → Validity) → Validity
ask_each = first_of is_refused (Ok tt)

-- an answer in document 01's numbers: 0, or the question's number and its place
unfoldable pub validity_numbers : Validity → List ℕ
validity_numbers (Ok _) = 0 ∷ []
validity_numbers (Err x) = x.number ∷ x.offset ∷ []
