-- The solver's list, for a graph g whose names have the sizes ns (document 01, "Signs": "The solver goes through …", and question 18).
use Rattle.std.specs.Prelude.{ℕ, zero, suc, ◌+◌, ◌/◌, min, Bool, true, false, cond, List, [], ◌∷◌, ◌++◌, length, nat_lt, slice_index_or, Result, Err, Ok}
use mathlib.Core.List.{foldl, flatten}
use Rattle.signs.specs.Lists.{passing, indices}
use Rattle.program.specs.Asking.{then_ask, Validity}
use Rattle.program.specs.Drawing.{over}
use Rattle.program.specs.File.{sizes}
use Rattle.program.specs.Graph.{Graph, graph, edge_at}
use Rattle.program.specs.Questions.{validity}
use Rattle.program.specs.declared.Construction.{Construction}
use Rattle.program.specs.Meaning.{meaning}
use Rattle.semantics.specs.Step.{leaves}
use Rattle.analysis.specs.Records.{initial_width, record_width, records_of, record_for, node_of, memory_of, listed, initial_whole, initial_formed, wrong_byte, unreadable_numbers}
use Rattle.analysis.specs.Results.{results}
use Rattle.analysis.specs.declared.RecordList.TheVariants.{Initial}
use Rattle.analysis.specs.declared.Solved.{Solved}
use Rattle.analysis.specs.declared.Solving.{Solving}
use Rattle.analysis.specs.declared.Solving.TheVariants.{Finished, Full}
use Rattle.analysis.specs.declared.Unreadable.{Unreadable}
use Rattle.analysis.specs.declared.Unreadable.TheVariants.{Refused as Refuses, Malformed}

-- the records found so far, and whether one was found that had no room
pub record Found : Type 0 where
  pub records : List (List ℕ)
  pub full : Bool

-- an abstract memory found at a node: "appending what isn't listed yet"; "Is there room for the solver's next record? 18", after which nothing
-- more is appended
unfoldable pub offer : List ℕ → ℕ → ℕ → Found → List ℕ → Found
offer ns room node f ρ =
    cond f.full f
    (cond (listed ns f.records node ρ) f
    (cond (nat_lt (length f.records) room)
    (record { records = f.records ++ (record_for node ρ ∷ []); full = false })
    (record { records = f.records; full = true })))

-- what follows an abstract memory along an edge: "result by result"
unfoldable pub offer_results : List ℕ → Graph → ℕ → List ℕ → Found → ℕ → Found
offer_results ns g room ρ f e =
    foldl (offer ns room (edge_at g e).target) f (results ρ (meaning (edge_at g e).action))

-- what follows a record: "arrow by arrow"
unfoldable pub offer_successors : List ℕ → Graph → ℕ → List ℕ → Found → Found
offer_successors ns g room r f =
    foldl (offer_results ns g room (memory_of ns r)) f
    (passing (λ e. leaves g e (node_of r)) (indices (length g.edges)))

-- "then down its own list": from record k on. The list has no more than `room` records, so that many turns are enough
unfoldable pub descend : ℕ → List ℕ → Graph → ℕ → ℕ → Found → Found
descend zero ns g room k f = f
descend (suc turns) ns g room k f =
    let rest = descend turns ns g room (k + 1) (offer_successors ns g room (slice_index_or f.records k []) f) in
    cond (nat_lt k (length f.records)) rest f

-- "goes through the start records at node 0, then down its own list"
unfoldable pub solution : List ℕ → Graph → List ℕ → ℕ → Found
solution ns g initial room =
    descend room ns g room 0
    (foldl (offer ns room 0) (record { records = []; full = false }) (records_of (initial_width ns) initial))

-- "Room is the buffer's whole records, at most 4,096", of a buffer of so many bytes
unfoldable pub room_of : List ℕ → ℕ → ℕ
room_of ns bytes = min 4096 (bytes / record_width ns)

-- the reply: "the count is theirs"; "other counts and nodes come back as zero"
unfoldable pub finished_or : Bool → Solving
finished_or true = Full
finished_or false = Finished

unfoldable pub solved_with : Validity → Validity → Found → Result Solved Unreadable
solved_with (Ok _) (Ok _) f = Ok (record { solving = finished_or f.full; count = length f.records })
solved_with (Ok _) (Err x) f = Err (Malformed (wrong_byte Initial x))
solved_with (Err x) formed f = Err (Refuses x)

-- the buffer afterwards: "After 18 the buffer holds the leading records that found room"
unfoldable pub buffer_with : Validity → Validity → Found → List ℕ → List ℕ
buffer_with (Ok _) (Ok _) f buffer = over (flatten f.records) buffer
buffer_with (Ok _) (Err x) f buffer = buffer
buffer_with (Err x) formed f buffer = buffer

-- of a program file and a construction of its graph: the file's questions and 16, 17 of the start list, and the list for a buffer
unfoldable pub initial_validity : List ℕ → List ℕ → Validity
initial_validity s initial = then_ask (validity s) (initial_whole (sizes s) initial)

unfoldable pub solution_in : Construction → List ℕ → List ℕ → List ℕ → Found
solution_in κ s initial buffer = solution (sizes s) (graph κ s) initial (room_of (sizes s) (length buffer))

unfoldable pub solved : Construction → List ℕ → List ℕ → List ℕ → Result Solved Unreadable
solved κ s initial buffer =
    solved_with (initial_validity s initial) (initial_formed (sizes s) initial) (solution_in κ s initial buffer)

unfoldable pub solved_buffer : Construction → List ℕ → List ℕ → List ℕ → List ℕ
solved_buffer κ s initial buffer =
    buffer_with (initial_validity s initial) (initial_formed (sizes s) initial) (solution_in κ s initial buffer) buffer

-- an end in document 01's numbers: 0; 18
unfoldable pub solving_numbers : Solving → List ℕ
solving_numbers Finished = 0 ∷ []
solving_numbers Full = 18 ∷ []

-- a reply in document 01's numbers: the end's, or the question's number and place, or 17's; then the count: "other counts and nodes come back as zero"
unfoldable pub solved_numbers : Result Solved Unreadable → List ℕ
solved_numbers (Ok r) = solving_numbers r.solving ++ (r.count ∷ [])
solved_numbers (Err x) = unreadable_numbers x ++ (0 ∷ [])

-- the row that solving into a buffer answers
unfoldable pub solver_row : Construction → List ℕ → List ℕ → List ℕ → List ℕ
solver_row κ s initial buffer = solved_numbers (solved κ s initial buffer)
