-- What each call tells, place by place, out of the operation's own row of numbers: the clause `numbers` of the crate below. Places 0 to 2 of every row are the answer, a
-- refusal's place, and the list of question 17; what follows is the call's own. A number stands at one place of a row whatever the answer is, and zero where a place does not
-- apply.
use Rattle.std.specs.Prelude.{ℕ, ◌+◌, ◌*◌, cond, List, [], ◌∷◌, eqb, ℤ, pos, nat_abs, length, get_or, take, drop}
use Rattle.program.specs.Drawing.{drawing_row}
use Rattle.program.specs.File.{name_count}
use Rattle.program.specs.Questions.{validation_row, input_row, program_part, initial_part}
use Rattle.program.specs.declared.Construction.{Construction}
use Rattle.semantics.specs.Budget.{run_row}
use Rattle.semantics.specs.Step.{Configuration, step_row}
use Rattle.analysis.specs.Solver.{solver_row}
use Rattle.analysis.specs.Splitter.{split_row}
use Rattle.analysis.specs.Verdict.{verdict_row, mark_row}
use Rattle.figures.specs.Figures.{figures_row, join_row}
use Rattle.figures.specs.declared.Totals.{Totals}
use Rattle.desk.specs.Reply.{Told, answered, refused, malformed, answered_with, refused_with}

-- the number at a place of an operation's row; past its end, 0
infix 40 ◌!◌
abbrev pub ◌!◌ : List ℕ → ℕ → ℕ
xs ! k = get_or xs k 0

-- ---- the questions of a program file and of the sheet program's input: "0", or the question's number and its place

abbrev pub validation_room : ℕ
validation_room = 3

unfoldable pub validation_told : List ℕ → Told
validation_told xs = cond (eqb (length xs) 1) (answered (xs ! 0) []) (refused (xs ! 0) (xs ! 1) [])

unfoldable pub validated : List ℕ → Told
validated s = validation_told (validation_row s)

unfoldable pub input_validated : List ℕ → Told
input_validated s = validation_told (input_row s)

-- ---- the parts of that input: the program's length, where the start list begins, after the three bytes of the fifth field's head, and its length

abbrev pub parts_room : ℕ
parts_room = 6

unfoldable pub parts_told : List ℕ → List ℕ → List ℕ → Told
parts_told program initial xs =
    cond (eqb (length xs) 1)
    (answered (xs ! 0) (length program ∷ (length program + 3) ∷ length initial ∷ []))
    (refused (xs ! 0) (xs ! 1) (0 ∷ 0 ∷ 0 ∷ []))

unfoldable pub parts : List ℕ → Told
parts s = parts_told (program_part s) (initial_part s) (input_row s)

-- ---- the graph by a construction, drawn into a buffer: nodes, edges. Of this and of all that follow a graph, a call's number names the construction

abbrev pub drawing_room : ℕ
drawing_room = 5

-- an answer and two numbers, or a question's number, its place and two numbers
unfoldable pub two_told : List ℕ → Told
two_told xs = cond (eqb (length xs) 3) (answered (xs ! 0) ((xs ! 1) ∷ (xs ! 2) ∷ [])) (refused (xs ! 0) (xs ! 1) ((xs ! 2) ∷ (xs ! 3) ∷ []))

unfoldable pub drew : Construction → List ℕ → List ℕ → Told
drew κ s buffer = two_told (drawing_row κ s buffer)

-- ---- a step along an edge, answered 0 or the reason's number, and a budgeted run, answered 0, 1 or 2: node, count

abbrev pub run_room : ℕ
run_room = 5

-- a run at a node with so many edges taken, over a memory, as a step takes it
abbrev pub standing : ℕ → ℕ → List ℤ → Configuration
standing node count m = record { run = record { node = node; count = count }; memory = m }

unfoldable pub stepped : Construction → List ℕ → Configuration → ℕ → Told
stepped κ s c e = two_told (step_row κ s c e)

unfoldable pub ran : Construction → List ℕ → ℕ → List ℤ → Told
ran κ s budget m = two_told (run_row κ s budget m)

-- ---- the verdict on a sheet, answered 0, 41 or 42: the record and the edge of 41 or 42; "the offending record itself, as a part of whichever of the two lists it lies in",
-- by its offset and length, in the start list after 41 and in the sheet after 42; and of an accepted sheet its index mark, 1 for clean and 2 otherwise, with its record and edge

abbrev pub verdict_room : ℕ
verdict_room = 10

abbrev pub clean : ℕ
clean = 1

abbrev pub unclean : ℕ
unclean = 2

-- nothing follows the 0 of a clean mark
unfoldable pub marking : List ℕ → ℕ
marking xs = cond (eqb (length xs) 1) clean unclean

-- in a program with so many names. Of the refusals 17 has three numbers
unfoldable pub verdict_told : ℕ → List ℕ → Told
verdict_told names xs =
    cond (eqb (xs ! 0) 0) (answered 0 (0 ∷ 0 ∷ 0 ∷ 0 ∷ marking xs ∷ (xs ! 1) ∷ (xs ! 2) ∷ []))
    (cond (eqb (xs ! 0) 41) (answered 41 ((xs ! 1) ∷ 0 ∷ (names * (xs ! 1)) ∷ names ∷ 0 ∷ 0 ∷ 0 ∷ []))
    (cond (eqb (xs ! 0) 42) (answered 42 ((xs ! 1) ∷ (xs ! 2) ∷ ((2 + names) * (xs ! 1)) ∷ (2 + names) ∷ 0 ∷ 0 ∷ 0 ∷ []))
    (cond (eqb (length xs) 3) (malformed (xs ! 1) (xs ! 2) (0 ∷ 0 ∷ 0 ∷ 0 ∷ 0 ∷ 0 ∷ 0 ∷ []))
    (refused (xs ! 0) (xs ! 1) (0 ∷ 0 ∷ 0 ∷ 0 ∷ 0 ∷ 0 ∷ 0 ∷ [])))))

unfoldable pub judged : Construction → List ℕ → List ℕ → List ℕ → Told
judged κ s initial solution = verdict_told (name_count s) (verdict_row κ s initial solution)

-- the number at a place of a row that is told
abbrev pub told_at : Told → ℕ → ℕ
told_at t k = nat_abs (get_or t.row k (pos 0))

-- the part of the two lists that a verdict's row names: of the start list after 41, of the sheet after 42
unfoldable pub list_named : List ℕ → List ℕ → ℕ → List ℕ
list_named initial solution answer = cond (eqb answer 41) initial (cond (eqb answer 42) solution [])

unfoldable pub part_named : List ℕ → List ℕ → Told → List ℕ
part_named initial solution t = take (told_at t 6) (drop (told_at t 5) (list_named initial solution (told_at t 0)))

-- ---- the index mark of a sheet by itself, answered 1 for clean and 2 otherwise: record, edge

abbrev pub mark_room : ℕ
mark_room = 5

unfoldable pub mark_told : List ℕ → Told
mark_told xs =
    cond (eqb (xs ! 0) 0) (answered (marking xs) ((xs ! 1) ∷ (xs ! 2) ∷ []))
    (cond (eqb (length xs) 3) (malformed (xs ! 1) (xs ! 2) (0 ∷ 0 ∷ [])) (refused (xs ! 0) (xs ! 1) (0 ∷ 0 ∷ [])))

unfoldable pub marked : List ℕ → List ℕ → Told
marked s solution = mark_told (mark_row s solution)

-- ---- the solver's list into a buffer: its records. 18 is refused without a place, and has the count of the records that the buffer holds

abbrev pub solver_room : ℕ
solver_room = 4

unfoldable pub solver_told : List ℕ → Told
solver_told xs =
    cond (eqb (length xs) 4) (malformed (xs ! 1) (xs ! 2) ((xs ! 3) ∷ []))
    (cond (eqb (length xs) 3) (refused (xs ! 0) (xs ! 1) ((xs ! 2) ∷ []))
    (cond (eqb (xs ! 0) 0) (answered 0 ((xs ! 1) ∷ [])) (refused (xs ! 0) 0 ((xs ! 1) ∷ []))))

unfoldable pub solved : Construction → List ℕ → List ℕ → List ℕ → Told
solved κ s initial buffer = solver_told (solver_row κ s initial buffer)

-- ---- a place in a sheet: record, column

abbrev pub split_room : ℕ
split_room = 5

unfoldable pub split : List ℕ → ℕ → Told
split s place = two_told (split_row s place)

-- ---- the figures of a list of marks, and of two classes joined: count, sum and sum of squares, then mean and variance, each numerator first

abbrev pub figures_room : ℕ
figures_room = 10

unfoldable pub figures_told : List ℤ → Told
figures_told xs =
    cond (eqb (length xs) 8)
    (answered_with (nat_abs (get_or xs 0 (pos 0))) (drop 1 xs))
    (refused_with (nat_abs (get_or xs 0 (pos 0))) (nat_abs (get_or xs 1 (pos 0))) (drop 2 xs))

unfoldable pub figured : List ℤ → Told
figured marks = figures_told (figures_row marks)

unfoldable pub joined : Totals → Totals → Told
joined a b = figures_told (join_row a b)

-- ---- the number of the version, as the pkg-config file has it

unfoldable pub version : ℕ
version = 3
