-- The verdict on a candidate solution, for a graph g whose names have the sizes ns (document 01, "Signs": "Verdict"; book, Definition 4.29).
use Rattle.std.specs.Prelude.{ℕ, Bool, not, ◌&&◌, List, [], ◌∷◌, length, Result, Err, Ok, None, Option, Some, is_some}
use Rattle.signs.specs.Lists.{any_of}
use Rattle.program.specs.Asking.{ask_plain, then_ask, Validity}
use Rattle.program.specs.File.{sizes}
use Rattle.program.specs.FirstSuch.{first_of, first_such}
use Rattle.program.specs.Graph.{Graph, graph, edge_at}
use Rattle.program.specs.Questions.{validity}
use Rattle.program.specs.declared.Construction.{Construction}
use Rattle.program.specs.declared.Construction.TheVariants.{Nondeterministic}
use Rattle.program.specs.Meaning.{meaning}
use Rattle.semantics.specs.Step.{leaves}
use Rattle.analysis.specs.Index.{may_be_negative}
use Rattle.analysis.specs.Records.{initial_width, record_width, record_count, record_at, node_of, memory_of, has_at, whole_records, both_whole, initial_formed, solution_formed, wrong_byte, unreadable_numbers}
use Rattle.analysis.specs.Results.{results}
use Rattle.analysis.specs.declared.Mark.{Mark}
use Rattle.analysis.specs.declared.Mark.TheVariants.{Clean, Unclean}
use Rattle.analysis.specs.declared.RecordList.{RecordList}
use Rattle.analysis.specs.declared.RecordList.TheVariants.{Initial, Solution}
use Rattle.analysis.specs.declared.Spot.{Spot}
use Rattle.analysis.specs.declared.Unreadable.{Unreadable}
use Rattle.analysis.specs.declared.Unreadable.TheVariants.{Refused as Declined, Malformed as Misshapen}
use Rattle.analysis.specs.declared.Verdict.{Verdict}
use Rattle.analysis.specs.declared.Verdict.TheVariants.{InitialMissing, ResultMissing, Accepted}

-- "41, a start record missing at node 0 (first such)"
unfoldable pub missing_initial : List ℕ → List ℕ → List ℕ → Option ℕ
missing_initial ns initial solution =
    first_such (record_count (initial_width ns) initial)
    (λ k. not (has_at ns solution 0 (record_at (initial_width ns) initial k)))

-- a spot: the first edge that was found for record k, or none
unfoldable pub spot_at : ℕ → Option ℕ → Option Spot
spot_at k (Some e) = Some (record { «record» = k; edge = e })
spot_at k None = None

-- "lowest record, then lowest arrow": the first record, and the first edge leaving its node, that a test of the abstract memory and the edge picks
unfoldable pub first_spot : List ℕ → Graph → List ℕ → (List ℕ → ℕ → Bool) → Option Spot
first_spot ns g solution picks =
    first_of is_some None (record_count (record_width ns) solution)
    (λ k.
    let r = record_at (record_width ns) solution k in
    spot_at k (first_such (length g.edges) (λ e. leaves g e (node_of r) && picks (memory_of ns r) e)))

-- "42, a result missing at the arrow's target"
unfoldable pub missing_result : List ℕ → Graph → List ℕ → Option Spot
missing_result ns g solution =
    first_spot ns g solution
    (λ ρ e. any_of (λ σ. not (has_at ns solution (edge_at g e).target σ)) (results ρ (meaning (edge_at g e).action)))

-- "index clean if at no record does an arrow leaving its node hold an index expression … whose set has minus; else the lowest record, then its
-- lowest such arrow, are named"
unfoldable pub mark_of : Option Spot → Mark
mark_of None = Clean
mark_of (Some x) = Unclean x.«record» x.edge

unfoldable pub index_mark : List ℕ → Graph → List ℕ → Mark
index_mark ns g solution = mark_of (first_spot ns g solution (λ ρ e. may_be_negative ρ (meaning (edge_at g e).action)))

-- the verdict by what is missing: 41, else 42, "else accepted"
unfoldable pub verdict_by : Option ℕ → Option Spot → Mark → Verdict
verdict_by (Some k) spot mark = InitialMissing k
verdict_by None (Some x) mark = ResultMissing x.«record» x.edge
verdict_by None None mark = Accepted mark

-- a verdict where no question is refused, and where no record of a list is malformed
unfoldable pub verdict_unless_refused : Validity → Result Verdict Unreadable → Result Verdict Unreadable
verdict_unless_refused (Ok _) v = v
verdict_unless_refused (Err x) v = Err (Declined x)

unfoldable pub unless_malformed : RecordList → Validity → Result Verdict Unreadable → Result Verdict Unreadable
unless_malformed list (Ok _) v = v
unless_malformed list (Err x) v = Err (Misshapen (wrong_byte list x))

-- 16, 17 of the start list and then of the solution, 41, 42
unfoldable pub verdict_over : List ℕ → Graph → List ℕ → List ℕ → Result Verdict Unreadable
verdict_over ns g initial solution =
    verdict_unless_refused (both_whole ns initial solution)
    (unless_malformed Initial (initial_formed ns initial)
    (unless_malformed Solution (solution_formed ns g solution)
    (Ok (verdict_by (missing_initial ns initial solution) (missing_result ns g solution) (index_mark ns g solution)))))

-- the verdict for a program file and a construction of its graph, of which the file's questions are asked first
unfoldable pub verdict : Construction → List ℕ → List ℕ → List ℕ → Result Verdict Unreadable
verdict κ s initial solution = verdict_unless_refused (validity s) (verdict_over (sizes s) (graph κ s) initial solution)

-- the index mark of a list of records by itself, of which 16 and 17 are asked after the questions of the program file
unfoldable pub solution_validity : List ℕ → List ℕ → Validity
solution_validity s solution = then_ask (validity s) (ask_plain (whole_records (record_width (sizes s)) solution) 16)

unfoldable pub marking_by : Validity → Validity → Mark → Result Mark Unreadable
marking_by (Ok _) (Ok _) mark = Ok mark
marking_by (Ok _) (Err x) mark = Err (Misshapen (wrong_byte Solution x))
marking_by (Err x) formed mark = Err (Declined x)

-- over document 01's graph: the mark is the same for every construction (law `mark_same`), and so it takes none
unfoldable pub marking : List ℕ → List ℕ → Result Mark Unreadable
marking s solution =
    marking_by (solution_validity s solution)
    (solution_formed (sizes s) (graph Nondeterministic s) solution)
    (index_mark (sizes s) (graph Nondeterministic s) solution)

-- "With 41 or 42 comes the offending record itself, as a part of whichever of the two lists it lies in; otherwise that part is empty."
unfoldable pub offending : List ℕ → List ℕ → List ℕ → Result Verdict Unreadable → List ℕ
offending ns initial solution (Err x) = []
offending ns initial solution (Ok (InitialMissing k)) = record_at (initial_width ns) initial k
offending ns initial solution (Ok (ResultMissing k e)) = record_at (record_width ns) solution k
offending ns initial solution (Ok (Accepted mark)) = []

-- an index mark in numbers: nothing where it is clean, else the record and the edge
unfoldable pub mark_numbers : Mark → List ℕ
mark_numbers Clean = []
mark_numbers (Unclean k e) = k ∷ e ∷ []

-- a verdict in document 01's numbers: the question's number and place; 17's; 41 and the record; 42, the record and the edge; or 0 and the index
-- mark's
unfoldable pub verdict_numbers : Result Verdict Unreadable → List ℕ
verdict_numbers (Err x) = unreadable_numbers x
verdict_numbers (Ok (InitialMissing k)) = 41 ∷ k ∷ []
verdict_numbers (Ok (ResultMissing k e)) = 42 ∷ k ∷ e ∷ []
verdict_numbers (Ok (Accepted mark)) = 0 ∷ mark_numbers mark

-- an index mark by itself in the same numbers
unfoldable pub marking_numbers : Result Mark Unreadable → List ℕ
marking_numbers (Err x) = unreadable_numbers x
marking_numbers (Ok mark) = 0 ∷ mark_numbers mark

-- the rows that judging a candidate solution and marking a list of records answer
unfoldable pub verdict_row : Construction → List ℕ → List ℕ → List ℕ → List ℕ
verdict_row κ s initial solution = verdict_numbers (verdict κ s initial solution)

unfoldable pub mark_row : List ℕ → List ℕ → List ℕ
mark_row s solution = marking_numbers (marking s solution)
