-- The worked examples of document 01 on sheets, and all its worked examples as one list. `proofs/Examples` shows that each holds.
use Rattle.std.specs.Prelude.{ℕ, List, [], ◌∷◌, ◌++◌, replicate, pos}
use mathlib.Core.List.{flatten}
use Rattle.signs.specs.Case.{Case, ◌gives◌, row}
use Rattle.signs.specs.Examples.{cases as sign_cases}
use Rattle.program.specs.Examples.{factorial, field, file_of, entry_of, cases as programCases}
use Rattle.program.specs.File.{sizes}
use Rattle.program.specs.Graph.{perform}
use Rattle.program.specs.Syntax.{number, store}
use Rattle.program.specs.Meaning.{meaning}
use Rattle.program.specs.declared.Construction.{Construction}
use Rattle.program.specs.declared.Construction.TheVariants.{Nondeterministic, Deterministic}
use Rattle.semantics.specs.Examples.{greatest, cases as semanticCases}
use Rattle.analysis.specs.Results.{results}
use Rattle.analysis.specs.Sheet.{printed_rows}
use Rattle.analysis.specs.Solver.{solved, solved_buffer, solved_numbers}
use Rattle.analysis.specs.Splitter.{split, split_numbers}
use Rattle.analysis.specs.Verdict.{verdict, offending, verdict_numbers}

-- the sheet of the factorial lesson: node and signs of each record, as the sheet program lists them, in two parts
unfoldable pub first_seven : List ℕ
first_seven =
    (0 ∷ 0 ∷ 4 ∷ 2 ∷ [])
    ++ (0 ∷ 2 ∷ 4 ∷ 4 ∷ [])
    ++ (0 ∷ 3 ∷ 4 ∷ 4 ∷ [])
    ++ (0 ∷ 4 ∷ 4 ∷ 4 ∷ [])
    ++ (0 ∷ 2 ∷ 1 ∷ 4 ∷ [])
    ++ (0 ∷ 2 ∷ 2 ∷ 4 ∷ [])
    ++ (0 ∷ 1 ∷ 1 ∷ 4 ∷ [])

unfoldable pub factorial_sheet : List ℕ
factorial_sheet = first_seven ++ (0 ∷ 1 ∷ 2 ∷ 4 ∷ [])

-- its start list: x plus, y zero
unfoldable pub factorial_start : List ℕ
factorial_start = 4 ∷ 2 ∷ []

-- (P) "The eight records", into a buffer of nine; and into one of five and a byte: 18
unfoldable pub solutions : List Case
solutions =
    (row (solved_numbers (solved Nondeterministic factorial factorial_start (replicate 36 9))) gives row (0 ∷ 8 ∷ []))
    ∷ (row (solved_buffer Nondeterministic factorial factorial_start (replicate 36 9)) gives row (factorial_sheet ++ replicate 4 9))
    ∷ (row (solved_numbers (solved Nondeterministic factorial factorial_start (replicate 21 9))) gives row (18 ∷ 5 ∷ []))
    ∷ (row (solved_buffer Nondeterministic factorial factorial_start (replicate 21 9))
    gives row
    ((0 ∷ 0 ∷ 4 ∷ 2 ∷ [])
    ++ (0 ∷ 2 ∷ 4 ∷ 4 ∷ [])
    ++ (0 ∷ 3 ∷ 4 ∷ 4 ∷ [])
    ++ (0 ∷ 4 ∷ 4 ∷ 4 ∷ [])
    ++ (0 ∷ 2 ∷ 1 ∷ 4 ∷ [])
    ++ (9 ∷ [])))
    ∷ []

-- the verdict on a candidate solution of the factorial lesson, then the offending record
unfoldable pub verdict_on : Construction → List ℕ → List ℕ → List ℕ
verdict_on κ initial solution =
    let v = verdict κ factorial initial solution in
    verdict_numbers v ++ offending (sizes factorial) initial solution v

-- the whole sheet is accepted, index clean; (P) "The sheet without record 7: 42, record 5, arrow 4"; a start record that it has not: 41; half a
-- record: 16; a sign that is none, and a node that is none: 17
unfoldable pub verdicts : List Case
verdicts =
    (row (verdict_on Nondeterministic factorial_start factorial_sheet) gives row (0 ∷ []))
    ∷ (row (verdict_on Nondeterministic factorial_start first_seven) gives row (42 ∷ 5 ∷ 4 ∷ 0 ∷ 2 ∷ 2 ∷ 4 ∷ []))
    ∷ (row (verdict_on Nondeterministic (4 ∷ 2 ∷ 1 ∷ 2 ∷ []) factorial_sheet) gives row (41 ∷ 1 ∷ 1 ∷ 2 ∷ []))
    ∷ (row (verdict_on Nondeterministic (4 ∷ []) factorial_sheet) gives row (16 ∷ 0 ∷ []))
    ∷ (row (verdict_on Nondeterministic (4 ∷ 3 ∷ []) factorial_sheet) gives row (17 ∷ 1 ∷ 1 ∷ []))
    ∷ (row (verdict_on Nondeterministic factorial_start (0 ∷ 0 ∷ 4 ∷ 2 ∷ 0 ∷ 5 ∷ 4 ∷ 2 ∷ [])) gives row (17 ∷ 2 ∷ 4 ∷ []))
    ∷ []

-- (P) "A store of sign zero at index zero, set 4: sets 6, then 2."
unfoldable pub stores : List Case
stores =
    (row (flatten (results (4 ∷ []) (meaning (perform (store 0 0 (number 0 (pos 0)) (number 0 (pos 0)))))))
    gives row (6 ∷ 2 ∷ []))
    ∷ []

-- A[j] := 0, over j and an array A of size 3
unfoldable pub store_at_j : List ℕ
store_at_j = file_of (0 ∷ 3 ∷ []) (entry_of 1 0 0 0 ∷ entry_of 0 0 0 0 ∷ []) [] (entry_of 2 1 0 1 ∷ [])

-- its sheet from j minus or zero is accepted, and marked at record 1, edge 0
unfoldable pub marks : List Case
marks =
    (row
    (verdict_numbers
    (verdict Nondeterministic store_at_j
    (2 ∷ 4 ∷ 1 ∷ 4 ∷ [])
    ((0 ∷ 0 ∷ 2 ∷ 4 ∷ []) ++ (0 ∷ 0 ∷ 1 ∷ 4 ∷ []) ++ (0 ∷ 1 ∷ 2 ∷ 6 ∷ []) ++ (0 ∷ 1 ∷ 2 ∷ 2 ∷ []))))
    gives row (0 ∷ 1 ∷ 0 ∷ []))
    ∷ []

-- byte 14 of a sheet of the factorial lesson is column 2 of record 3
unfoldable pub places : List Case
places = (row (split_numbers (split factorial 14)) gives row (0 ∷ 3 ∷ 2 ∷ [])) ∷ []

-- the listing of the factorial lesson; and with 0 for a sign of its start list
unfoldable pub listings : List Case
listings =
    (row (flatten (printed_rows (factorial ++ field 5 factorial_start)))
    gives row
    ((5 ∷ 5 ∷ 8 ∷ [])
    ++ (0 ∷ 0 ∷ 4 ∷ 2 ∷ [])
    ++ (1 ∷ 2 ∷ 4 ∷ 4 ∷ [])
    ++ (2 ∷ 3 ∷ 4 ∷ 4 ∷ [])
    ++ (3 ∷ 4 ∷ 4 ∷ 4 ∷ [])
    ++ (4 ∷ 2 ∷ 1 ∷ 4 ∷ [])
    ++ (5 ∷ 2 ∷ 2 ∷ 4 ∷ [])
    ++ (6 ∷ 1 ∷ 1 ∷ 4 ∷ [])
    ++ (7 ∷ 1 ∷ 2 ∷ 4 ∷ [])))
    ∷ (row (flatten (printed_rows (factorial ++ field 5 (4 ∷ 0 ∷ [])))) gives row (17 ∷ 1 ∷ []))
    ∷ []

-- the greatest of two zeros: along the first guard, and along both; of two pluses
unfoldable pub by_first : List ℕ
by_first = (0 ∷ 0 ∷ 2 ∷ 2 ∷ 2 ∷ []) ++ (0 ∷ 2 ∷ 2 ∷ 2 ∷ 2 ∷ []) ++ (0 ∷ 1 ∷ 2 ∷ 2 ∷ 2 ∷ [])

unfoldable pub by_both : List ℕ
by_both = (0 ∷ 0 ∷ 2 ∷ 2 ∷ 2 ∷ []) ++ (0 ∷ 2 ∷ 2 ∷ 2 ∷ 2 ∷ []) ++ (0 ∷ 3 ∷ 2 ∷ 2 ∷ 2 ∷ []) ++ (0 ∷ 1 ∷ 2 ∷ 2 ∷ 2 ∷ [])

unfoldable pub by_either : List ℕ
by_either = (0 ∷ 0 ∷ 4 ∷ 4 ∷ 2 ∷ []) ++ (0 ∷ 2 ∷ 4 ∷ 4 ∷ 2 ∷ []) ++ (0 ∷ 3 ∷ 4 ∷ 4 ∷ 2 ∷ []) ++ (0 ∷ 1 ∷ 4 ∷ 4 ∷ 4 ∷ [])

-- (order 8) the factorial has the same sheet on the deterministic graph. Of two zeros the first guard is true, so that only document 01's graph goes along the second too,
-- and there the other's sheet lacks a result, at record 0 and edge 2; of two pluses the first may be false
unfoldable pub selections : List Case
selections =
    (row (solved_numbers (solved Deterministic factorial factorial_start (replicate 36 9))) gives row (0 ∷ 8 ∷ []))
    ∷ (row (solved_buffer Deterministic factorial factorial_start (replicate 36 9)) gives row (factorial_sheet ++ replicate 4 9))
    ∷ (row (verdict_on Deterministic factorial_start factorial_sheet) gives row (0 ∷ []))
    ∷ (row (verdict_on Deterministic factorial_start first_seven) gives row (42 ∷ 5 ∷ 4 ∷ 0 ∷ 2 ∷ 2 ∷ 4 ∷ []))
    ∷ (row (solved_buffer Nondeterministic greatest (2 ∷ 2 ∷ 2 ∷ []) (replicate 20 9)) gives row by_both)
    ∷ (row (solved_buffer Deterministic greatest (2 ∷ 2 ∷ 2 ∷ []) (replicate 20 9)) gives row (by_first ++ replicate 5 9))
    ∷ (row (verdict_numbers (verdict Deterministic greatest (2 ∷ 2 ∷ 2 ∷ []) by_first)) gives row (0 ∷ []))
    ∷ (row (verdict_numbers (verdict Nondeterministic greatest (2 ∷ 2 ∷ 2 ∷ []) by_first)) gives row (42 ∷ 0 ∷ 2 ∷ []))
    ∷ (row (solved_buffer Deterministic greatest (4 ∷ 4 ∷ 2 ∷ []) (replicate 20 9)) gives row by_either)
    ∷ []

unfoldable pub sheet_cases : List Case
sheet_cases = solutions ++ verdicts ++ stores ++ marks ++ places ++ listings ++ selections

-- every worked example of document 01
unfoldable pub cases : List Case
cases = sign_cases ++ programCases ++ semanticCases ++ sheet_cases
