-- Calls on the factorial lesson of document 01, with what they return and the reply that they leave. `proofs/Examples` shows that each holds.
use Rattle.std.specs.Prelude.{ℕ, List, [], ◌∷◌, ◌++◌, ℤ, pos, replicate}
use Rattle.signs.specs.Case.{Case, ◌gives◌, row, minus}
use Rattle.program.specs.Examples.{factorial, field}
use Rattle.program.specs.Graph.{named}
use Rattle.semantics.specs.Examples.{greatest}
use Rattle.analysis.specs.Examples.{first_seven, factorial_sheet, factorial_start}
use Rattle.figures.specs.Totals.{class}
use Rattle.desk.specs.Reply.{Told, returned, replied}
use Rattle.desk.specs.Rows.{validation_room, validated, parts_room, parts, drawing_room, drew, standing, run_room, stepped, ran, verdict_room, judged, mark_room, marked, solver_room, solved, split_room, split, figures_room, figured, joined}

-- what a call returns with a reply of so many nines, and the reply afterwards
unfoldable pub calls : ℕ → Told → ℕ → List ℤ
calls room t n = let reply = replicate n (pos 9) in returned room t reply ∷ replied room t reply

-- "The sheet without record 7: 42, record 5, arrow 4", with the offending record's four bytes from byte 20 on, into a reply with room for twelve numbers and into one that
-- is too short
unfoldable pub replies : List Case
replies =
    let verdict = judged (named 1) factorial factorial_start first_seven in
    (calls verdict_room verdict 12 gives row (0 ∷ 42 ∷ 0 ∷ 0 ∷ 5 ∷ 4 ∷ 20 ∷ 4 ∷ 0 ∷ 0 ∷ 0 ∷ 9 ∷ 9 ∷ []))
    ∷ (calls verdict_room verdict 9 gives minus 1 ∷ row (replicate 9 9))
    ∷ []

-- the lesson's file; its input, whole and with a byte of the start list missing; its graph into a buffer that is long enough and one that is not
unfoldable pub files : List Case
files =
    (calls validation_room (validated factorial) 3 gives row (0 ∷ 0 ∷ 0 ∷ 0 ∷ []))
    ∷ (calls parts_room (parts (factorial ++ field 5 factorial_start)) 6 gives row (0 ∷ 0 ∷ 0 ∷ 0 ∷ 135 ∷ 138 ∷ 2 ∷ []))
    ∷ (calls parts_room (parts (factorial ++ field 5 (4 ∷ []))) 6 gives row (3 ∷ []) ++ (minus 1 ∷ row (135 ∷ 0 ∷ 0 ∷ 0 ∷ 0 ∷ [])))
    ∷ (calls drawing_room (drew (named 0) factorial (replicate 35 9)) 5 gives row (0 ∷ 0 ∷ 0 ∷ 0 ∷ 5 ∷ 5 ∷ []))
    ∷ (calls drawing_room (drew (named 2) factorial (replicate 35 9)) 5 gives row (0 ∷ 0 ∷ 0 ∷ 0 ∷ 5 ∷ 5 ∷ []))
    ∷ (calls drawing_room (drew (named 2) factorial (replicate 34 9)) 5 gives row (13 ∷ []) ++ (minus 1 ∷ row (0 ∷ 0 ∷ 0 ∷ 0 ∷ [])))
    ∷ []

-- x 3 and y 0: the run of document 01; a step along edge 0; along edge 1, which does not leave node 0; and out of the loop, whose guard holds
unfoldable pub start : List ℤ
start = pos 3 ∷ pos 0 ∷ []

unfoldable pub runs : List Case
runs =
    (calls run_room (ran (named 1) factorial 11 start) 5 gives row (0 ∷ 0 ∷ 0 ∷ 0 ∷ 1 ∷ 11 ∷ []))
    ∷ (calls run_room (ran (named 2) factorial 11 start) 5 gives row (0 ∷ 0 ∷ 0 ∷ 0 ∷ 1 ∷ 11 ∷ []))
    ∷ (calls run_room (stepped (named 2) factorial (standing 0 0 start) 0) 5 gives row (0 ∷ 0 ∷ 0 ∷ 0 ∷ 2 ∷ 1 ∷ []))
    ∷ (calls run_room (stepped (named 2) factorial (standing 0 7 start) 1) 5 gives row (15 ∷ []) ++ (minus 1 ∷ row (0 ∷ 0 ∷ 0 ∷ 7 ∷ [])))
    ∷ (calls run_room (stepped (named 2) factorial (standing 2 7 start) 4) 5 gives row (0 ∷ 31 ∷ 0 ∷ 0 ∷ 2 ∷ 7 ∷ []))
    ∷ []

-- the whole sheet is accepted and index clean; a start record that the sheet has not; a start list with a byte that is no sign; then the index mark, the solver and the
-- splitter
unfoldable pub sheets : List Case
sheets =
    (calls verdict_room (judged (named 2) factorial factorial_start factorial_sheet) 10 gives row (0 ∷ 0 ∷ 0 ∷ 0 ∷ 0 ∷ 0 ∷ 0 ∷ 0 ∷ 1 ∷ 0 ∷ 0 ∷ []))
    ∷ (calls verdict_room (judged (named 1) factorial (4 ∷ 2 ∷ 1 ∷ 2 ∷ []) factorial_sheet) 10 gives row (0 ∷ 41 ∷ 0 ∷ 0 ∷ 1 ∷ 0 ∷ 2 ∷ 2 ∷ 0 ∷ 0 ∷ 0 ∷ []))
    ∷ (calls verdict_room (judged (named 1) factorial (4 ∷ 3 ∷ []) factorial_sheet) 10 gives row (17 ∷ []) ++ (minus 1 ∷ row (1 ∷ 1 ∷ 0 ∷ 0 ∷ 0 ∷ 0 ∷ 0 ∷ 0 ∷ 0 ∷ [])))
    ∷ (calls mark_room (marked factorial factorial_sheet) 5 gives row (0 ∷ 1 ∷ 0 ∷ 0 ∷ 0 ∷ 0 ∷ []))
    ∷ (calls solver_room (solved (named 2) factorial factorial_start (replicate 36 9)) 4 gives row (0 ∷ 0 ∷ 0 ∷ 0 ∷ 8 ∷ []))
    ∷ (calls solver_room (solved (named 2) factorial factorial_start (replicate 31 9)) 4 gives row (18 ∷ []) ++ (minus 1 ∷ row (0 ∷ 0 ∷ 7 ∷ [])))
    ∷ (calls split_room (split factorial 14) 5 gives row (0 ∷ 0 ∷ 0 ∷ 0 ∷ 3 ∷ 2 ∷ []))
    ∷ []

-- figures of order 13: of the marks 3, 4 and 4 into a reply with room for eleven numbers; of those joined with a mark of −7; and of a list whose second mark is outside the
-- range
unfoldable pub figures : List Case
figures =
    (calls figures_room (figured (row (3 ∷ 4 ∷ 4 ∷ []))) 11 gives row (0 ∷ 0 ∷ 0 ∷ 0 ∷ 3 ∷ 11 ∷ 41 ∷ 11 ∷ 3 ∷ 2 ∷ 9 ∷ 9 ∷ []))
    ∷ (calls figures_room (joined (class 3 (pos 11) (pos 41)) (class 1 (minus 7) (pos 49))) 10 gives row (0 ∷ 0 ∷ 0 ∷ 0 ∷ 4 ∷ 4 ∷ 90 ∷ 1 ∷ 1 ∷ 43 ∷ 2 ∷ []))
    ∷ (calls figures_room (figured (pos 10000 ∷ minus 10001 ∷ [])) 10 gives row (24 ∷ []) ++ (minus 1 ∷ row (1 ∷ 0 ∷ 0 ∷ 0 ∷ 0 ∷ 0 ∷ 1 ∷ 0 ∷ 1 ∷ [])))
    ∷ []

-- (order 8) the second of two guards that both hold, x ≥ y and y ≥ x with 4 and 4: taken on document 01's graph and where a number names none, and 31 on the deterministic one
unfoldable pub graphs_named : List Case
graphs_named =
    (calls run_room (stepped (named 1) greatest (standing 0 0 (row (4 ∷ 4 ∷ 0 ∷ []))) 2) 5 gives row (0 ∷ 0 ∷ 0 ∷ 0 ∷ 3 ∷ 1 ∷ []))
    ∷ (calls run_room (stepped (named 2) greatest (standing 0 0 (row (4 ∷ 4 ∷ 0 ∷ []))) 2) 5 gives row (0 ∷ 31 ∷ 0 ∷ 0 ∷ 0 ∷ 0 ∷ []))
    ∷ (calls run_room (stepped (named 7) greatest (standing 0 0 (row (4 ∷ 4 ∷ 0 ∷ []))) 2) 5 gives row (0 ∷ 0 ∷ 0 ∷ 0 ∷ 3 ∷ 1 ∷ []))
    ∷ []

unfoldable pub cases : List Case
cases = replies ++ files ++ runs ++ sheets ++ figures ++ graphs_named
