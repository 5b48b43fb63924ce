-- What the sheet program prints, line by line (document 01, "The sheet program and the factorial lesson").
use Rattle.std.specs.Prelude.{ℕ, not, List, [], ◌∷◌, ◌++◌, map, length, slice_index_or, Err, Ok}
use mathlib.Core.List.{flatten}
use Rattle.signs.specs.Lists.{tabulate}
use Rattle.program.specs.Asking.{ask_plain, in_turn, Validity}
use Rattle.program.specs.File.{sizes}
use Rattle.program.specs.Graph.{graph}
use Rattle.program.specs.Questions.{input_validity, program_part, initial_part}
use Rattle.program.specs.declared.Construction.TheVariants.{Nondeterministic}
use Rattle.program.specs.declared.Refusal.{Refusal}
use Rattle.analysis.specs.Records.{node_of, memory_of, initial_formed}
use Rattle.analysis.specs.Solver.{Found, solution, room_of}
use Rattle.analysis.specs.Verdict.{index_mark, mark_numbers}
use Rattle.analysis.specs.declared.Mark.{Mark}

-- "Its sheet buffer has 65,536 bytes": the solver's list for an input, on document 01's graph, which it asks for by name
unfoldable pub sheet_of : List ℕ → Found
sheet_of input =
    let s = program_part input in
    solution (sizes s) (graph Nondeterministic s) (initial_part input) (room_of (sizes s) 65536)

-- what a line that it prints says: the numbers of nodes, arrows and records; number, node and signs of a record; the index mark; a refusal
pub data Line : Type 0 where
  counts_line : ℕ → ℕ → ℕ → Line
  record_line : ℕ → ℕ → List ℕ → Line
  index_line : Mark → Line
  refusal_line : Refusal → Line

-- "It prints counts, then number, node and signs of each record, then the index line"
unfoldable pub listing : List ℕ → List (List ℕ) → List Line
listing s rs =
    (counts_line (graph Nondeterministic s).nodes (length (graph Nondeterministic s).edges) (length rs)
    ∷ tabulate (length rs) (λ k. record_line k (node_of (slice_index_or rs k [])) (memory_of (sizes s) (slice_index_or rs k []))))
    ++ (index_line (index_mark (sizes s) (graph Nondeterministic s) (flatten rs)) ∷ [])

-- whether a listing is printed: after the file's questions, 17, whose "place counts from the start list's first byte", and 18 (16 cannot be refused here: the
-- fifth field is whole records, at most 512)
unfoldable pub print_validity : List ℕ → Found → Validity
print_validity input f =
    in_turn
    (input_validity input
    ∷ initial_formed (sizes (program_part input)) (initial_part input)
    ∷ ask_plain (not f.full) 18
    ∷ [])

-- "A refusal prints only 'refused N at PLACE', with 0 where there is no place."
unfoldable pub lines_by : List ℕ → Found → Validity → List Line
lines_by input f (Ok _) = listing (program_part input) f.records
lines_by input f (Err x) = refusal_line x ∷ []

unfoldable pub printed_lines : List ℕ → List Line
printed_lines input = let f = sheet_of input in lines_by input f (print_validity input f)

-- the same as rows of numbers: of the index line nothing for "index clean", else the numbers of "index record K arrow E"
unfoldable pub line_numbers : Line → List ℕ
line_numbers (counts_line nodes edges count) = nodes ∷ edges ∷ count ∷ []
line_numbers (record_line k node signs) = k ∷ node ∷ signs
line_numbers (index_line mark) = mark_numbers mark
line_numbers (refusal_line x) = x.number ∷ x.offset ∷ []

unfoldable pub printed_rows : List ℕ → List (List ℕ)
printed_rows input = map line_numbers (printed_lines input)
