-- Lists of records (document 01: start list and sign sheet), membership, and questions 16 and 17. The names have the sizes ns.
use Rattle.std.specs.Prelude.{ℕ, ◌+◌, ◌*◌, ◌/◌, ◌%◌, Bool, true, false, ◌&&◌, List, [], ◌∷◌, ◌++◌, length, take, drop, ◌==◌, nat_le, nat_lt, slice_index}
use Rattle.signs.specs.Lists.{any_of, tabulate}
use Rattle.program.specs.Asking.{ask, ask_plain, then_ask, ask_each, Validity}
use Rattle.program.specs.File.{byte_at, word_at}
use Rattle.program.specs.Graph.{Graph, word_bytes}
use Rattle.program.specs.declared.Refusal.{Refusal}
use Rattle.analysis.specs.Abstraction.{well_formed}
use Rattle.analysis.specs.declared.RecordList.{RecordList}
use Rattle.analysis.specs.declared.RecordList.TheVariants.{Initial, Solution}
use Rattle.analysis.specs.declared.Unreadable.{Unreadable}
use Rattle.analysis.specs.declared.Unreadable.TheVariants.{Refused, Malformed}
use Rattle.analysis.specs.declared.WrongByte.{WrongByte}

-- "A start list is such records; a sheet puts a two-byte node of the graph before each": the bytes of a record of each
unfoldable pub initial_width : List ℕ → ℕ
initial_width ns = length ns

unfoldable pub record_width : List ℕ → ℕ
record_width ns = 2 + length ns

-- the number of records of a width in a list, and record k
unfoldable pub record_count : ℕ → List ℕ → ℕ
record_count width bytes = length bytes / width

unfoldable pub record_at : ℕ → List ℕ → ℕ → List ℕ
record_at width bytes k = take width (drop (width * k) bytes)

unfoldable pub records_of : ℕ → List ℕ → List (List ℕ)
records_of width bytes = tabulate (record_count width bytes) (record_at width bytes)

-- an abstract memory at a node, as a record of a solution; and the node and the signs of such a record, as many bytes as there are names
unfoldable pub record_for : ℕ → List ℕ → List ℕ
record_for node ρ = word_bytes node ++ ρ

unfoldable pub node_of : List ℕ → ℕ
node_of r = word_at r 0

unfoldable pub memory_of : List ℕ → List ℕ → List ℕ
memory_of ns r = take (length ns) (drop 2 r)

-- whether two abstract memories are the same
unfoldable pub same_signs : List ℕ → List ℕ → Bool
same_signs [] [] = true
same_signs [] (y ∷ ys) = false
same_signs (x ∷ xs) [] = false
same_signs (x ∷ xs) (y ∷ ys) = x == y && same_signs xs ys

-- whether a record "gives that node and exactly those signs"
unfoldable pub gives : List ℕ → ℕ → List ℕ → List ℕ → Bool
gives ns node ρ r = node_of r == node && same_signs (memory_of ns r) ρ

-- membership: "if one of its records gives that node and exactly those signs"; of records, and of a solution's bytes
unfoldable pub listed : List ℕ → List (List ℕ) → ℕ → List ℕ → Bool
listed ns rs node ρ = any_of (gives ns node ρ) rs

unfoldable pub has_at : List ℕ → List ℕ → ℕ → List ℕ → Bool
has_at ns solution node ρ = listed ns (records_of (record_width ns) solution) node ρ

-- whether a start list has an abstract memory
unfoldable pub has_initial : List ℕ → List ℕ → List ℕ → Bool
has_initial ns initial ρ = any_of (λ r. same_signs r ρ) (records_of (initial_width ns) initial)

-- "Are start list and sheet each whole records, at most 4,096? 16": of one list, of a start list alone, and of both
unfoldable pub whole_records : ℕ → List ℕ → Bool
whole_records width bytes = length bytes % width == 0 && nat_le (record_count width bytes) 4096

unfoldable pub initial_whole : List ℕ → List ℕ → Validity
initial_whole ns initial = ask_plain (whole_records (initial_width ns) initial) 16

unfoldable pub both_whole : List ℕ → List ℕ → List ℕ → Validity
both_whole ns initial solution =
    ask_plain (whole_records (initial_width ns) initial && whole_records (record_width ns) solution) 16

-- "Is every record well formed, start list first? 17, with the list and the place in it of the first wrong byte": of the abstract memory at a
-- place of a list
unfoldable pub memory_formed : List ℕ → List ℕ → ℕ → Validity
memory_formed ns bytes at =
    ask_each (length ns) (λ i. ask (well_formed (slice_index ns i) (byte_at bytes (at + i))) 17 (at + i))

-- every record of a start list
unfoldable pub initial_formed : List ℕ → List ℕ → Validity
initial_formed ns bytes =
    ask_each (record_count (initial_width ns) bytes) (λ k. memory_formed ns bytes (initial_width ns * k))

-- every record of a solution: "for a wrong node its first byte"
unfoldable pub solution_formed : List ℕ → Graph → List ℕ → Validity
solution_formed ns g bytes =
    ask_each (record_count (record_width ns) bytes)
    (λ k.
    let at = record_width ns * k in
    then_ask (ask (nat_lt (word_at bytes at) g.nodes) 17 at) (memory_formed ns bytes (at + 2)))

-- the wrong byte of a list that such a question is answered with
unfoldable pub wrong_byte : RecordList → Refusal → WrongByte
wrong_byte list x = record { list = list; offset = x.offset }

-- 17 in document 01's numbers: the number, the list (1 for the start list, 2 for the sheet) and the place
unfoldable pub list_number : RecordList → ℕ
list_number Initial = 1
list_number Solution = 2

unfoldable pub wrong_byte_numbers : WrongByte → List ℕ
wrong_byte_numbers w = 17 ∷ list_number w.list ∷ w.offset ∷ []

-- why lists are not read, in the same numbers: the question's number and place, or 17's
unfoldable pub unreadable_numbers : Unreadable → List ℕ
unreadable_numbers (Refused x) = x.number ∷ x.offset ∷ []
unreadable_numbers (Malformed w) = wrong_byte_numbers w
