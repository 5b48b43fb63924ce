-- The splitter of a byte place in a solution (document 01, "Signs": "A byte place in a sheet …").
use Rattle.std.specs.Prelude.{ℕ, ◌/◌, ◌%◌, List, [], ◌∷◌, Result, Err, Ok}
use Rattle.program.specs.Asking.{Validity}
use Rattle.program.specs.File.{sizes}
use Rattle.program.specs.Questions.{validity}
use Rattle.program.specs.declared.Refusal.{Refusal}
use Rattle.analysis.specs.Records.{record_width}
use Rattle.analysis.specs.declared.Split.{Split}

-- "split by dividing by the sheet's record width, two plus the script's number of names: quotient the record, remainder the column"
unfoldable pub split_place : ℕ → ℕ → Split
split_place width place = record { «record» = place / width; column = place % width }

unfoldable pub split_by : Validity → ℕ → ℕ → Result Split Refusal
split_by (Ok _) width place = Ok (split_place width place)
split_by (Err x) width place = Err x

unfoldable pub split : List ℕ → ℕ → Result Split Refusal
split s place = split_by (validity s) (record_width (sizes s)) place

-- a reply in document 01's numbers: 0 or the refusal's, then record and column, which "come back as zero" where it is refused
unfoldable pub split_numbers : Result Split Refusal → List ℕ
split_numbers (Ok x) = 0 ∷ x.«record» ∷ x.column ∷ []
split_numbers (Err x) = x.number ∷ x.offset ∷ 0 ∷ 0 ∷ []

-- the row that splitting a place answers
unfoldable pub split_row : List ℕ → ℕ → List ℕ
split_row s place = split_numbers (split s place)
