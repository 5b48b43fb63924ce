-- What the functions that judge a solution promise each other, over a prepared program whose names have the sizes ns and whose graph is g. No public
-- contract cites these.
use Rattle.std.specs.Prelude.{◌≡◌, ℕ, ◌+◌, Bool, true, false, not, ◌&&◌, List, length, replicate, slice_index, Ok, Option, Result}
use Rattle.signs.specs.Lists.{any_of}
use Rattle.program.specs.Asking.{ask_plain}
use Rattle.program.specs.FirstSuch.{first_such}
use Rattle.program.specs.Graph.{Graph, edge_at}
use Rattle.program.specs.Meaning.{meaning}
use Rattle.program.specs.Parts.Preceding.{plain}
use Rattle.program.specs.Parts.Prepared.{Prepared, entries_in, action_in, decoded_meaning, is_guard_node, name_count_place}
use Rattle.program.specs.declared.ActionNode.{ActionNode}
use Rattle.semantics.specs.Step.{leaves}
use Rattle.analysis.specs.Parts.Changing.{Alike}
use Rattle.analysis.specs.Index.{may_be_negative}
use Rattle.analysis.specs.Parts.Membership.{Indexed, Weighed}
use Rattle.analysis.specs.Records.{record_width, record_count, record_at, node_of, memory_of, has_at, whole_records, solution_formed}
use Rattle.analysis.specs.Results.{results}
use Rattle.analysis.specs.Parts.Tabled.{Ready}
use Rattle.analysis.specs.Verdict.{missing_initial, spot_at, missing_result, index_mark, verdict_by, marking_by}
use Rattle.analysis.specs.declared.Mark.{Mark}
use Rattle.analysis.specs.declared.Unreadable.{Unreadable}
use Rattle.analysis.specs.declared.Spot.{Spot}
use Rattle.analysis.specs.declared.Verdict.{Verdict}
use Rattle.analysis.specs.declared.judging.Query.{Query}
use Rattle.analysis.specs.declared.judging.Query.TheVariants.{MissingResult, NegativeIndex}

-- whether one of some abstract memories is missing at a node
unfoldable pub any_missing : List ℕ → List ℕ → ℕ → List (List ℕ) → Bool
any_missing ns solution node σs = any_of (λ σ. not (has_at ns solution node σ)) σs

-- whether a query picks an abstract memory and an edge: 42 of the verdict, or the index mark, for which a guard's earlier ones make no difference
unfoldable pub picks : List ℕ → Graph → List ℕ → Query → List ℕ → ℕ → Bool
picks ns g solution MissingResult ρ e = any_missing ns solution (edge_at g e).target (results ρ (meaning (edge_at g e).action))
picks ns g solution NegativeIndex ρ e = may_be_negative ρ (meaning (plain (edge_at g e).action))

-- whether a query is handed over at an edge whose action, decoded, is this
unfoldable pub handed_over : Query → ActionNode → Bool
handed_over MissingResult x = is_guard_node x
handed_over NegativeIndex x = false

-- every sign for each of 32 names; and that no index of an edge's action, decoded, may be negative there
unfoldable pub widest : List ℕ
widest = replicate 32 7

unfoldable pub NeverNegative : List ℕ → List ℕ → ℕ → Type 0
NeverNegative code graph e = may_be_negative widest (decoded_meaning (entries_in code graph) (action_in graph e)) ≡ false

-- the first edge out of a node that a query picks
unfoldable pub first_picked : List ℕ → Graph → List ℕ → Query → ℕ → List ℕ → Option ℕ
first_picked ns g solution q node ρ = first_such (length g.edges) (λ e. leaves g e node && picks ns g solution q ρ e)

-- and of record k and the edges out of its node
unfoldable pub spot_of : List ℕ → Graph → List ℕ → Query → ℕ → Option Spot
spot_of ns g solution q k =
    let r = record_at (record_width ns) solution k in
    spot_at k (first_picked ns g solution q (node_of r) (memory_of ns r))

-- the names' number, as the code has it
abbrev pub names_in : List ℕ → ℕ
names_in code = slice_index code name_count_place

-- an abstract memory of so many names, and the array that it was read into
pub record ReadInto (ρ rho : List ℕ) (names : ℕ) : Type 0 where
  pub sized : length ρ ≡ names
  pub alike : Alike ρ rho

-- some records of a solution are indexed, and an abstract memory of so many names is weighed
pub record Ordered (names : ℕ) (solution index rho : List ℕ) (weight : ℕ) : Type 0 where
  pub count : ℕ
  pub indexed : Indexed (2 + names) solution count index
  pub weighed : Weighed names rho weight

-- all of its records are indexed
abbrev pub Filled : ℕ → List ℕ → List ℕ → Type 0
Filled names solution index = Indexed (2 + names) solution (record_count (2 + names) solution) index

-- a program that is ready, with a solution of which 16 was answered yes and some records are indexed
pub record Searchable (code graph solution index : List ℕ) : Type 0 where
  pub ready : Ready code graph
  pub whole : whole_records (2 + names_in code) solution ≡ true
  pub count : ℕ
  pub indexed : Indexed (2 + names_in code) solution count index

-- what a query searches: a well-formed solution, for 42 with all of its records indexed
pub record Searched (ns : List ℕ) (g : Graph) (code graph : List ℕ) (q : Query) (solution index : List ℕ) : Type 0 where
  pub prepared : Prepared ns g code graph
  pub formed : solution_formed ns g solution ≡ Ok tt
  pub filled : q ≡ MissingResult → Filled (length ns) solution index

-- the verdict on two lists of whole, well-formed records
unfoldable pub formed_verdict : List ℕ → Graph → List ℕ → List ℕ → Verdict
formed_verdict ns g initial solution = verdict_by (missing_initial ns initial solution) (missing_result ns g solution) (index_mark ns g solution)

-- the index mark of a list of records by itself, after 16 and 17
unfoldable pub marked : List ℕ → Graph → List ℕ → Result Mark Unreadable
marked ns g solution = marking_by (ask_plain (whole_records (record_width ns) solution) 16) (solution_formed ns g solution) (index_mark ns g solution)
