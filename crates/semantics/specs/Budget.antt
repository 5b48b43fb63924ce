-- The budgeted run over a graph g whose names have the sizes ns (document 01, "The step").
use Rattle.program.specs.Asking.{Validity}
use Rattle.std.specs.Prelude.{ℕ, zero, suc, cond, ◌&&◌, List, [], ◌∷◌, ◌++◌, eqb, length, ℤ, Err, Ok, None, Option, Some}
use Rattle.program.specs.File.{sizes}
use Rattle.program.specs.FirstSuch.{first_such}
use Rattle.program.specs.Graph.{Graph, graph}
use Rattle.program.specs.Questions.{validity}
use Rattle.program.specs.declared.Construction.{Construction}
use Rattle.semantics.specs.Action.{is_defined}
use Rattle.semantics.specs.Step.{Configuration, begun, memory_validity, leaves, edge_effect, along}
use Rattle.semantics.specs.declared.Ended.{Ended}
use Rattle.semantics.specs.declared.Ending.{Ending}
use Rattle.semantics.specs.declared.Ending.TheVariants.{Arrived, Spent, Stuck, Refused as Refuses}

-- "the lowest-numbered defined arrow" out of a node
unfoldable pub lowest_defined : List ℕ → Graph → ℕ → List ℤ → Option ℕ
lowest_defined ns g node m = first_such (length g.edges) (λ e. leaves g e node && is_defined (edge_effect ns g m e))

-- where a run ends, and how
pub record Finish : Type 0 where
  pub ending : Ending
  pub final : Configuration

abbrev pub ends : Ending → Configuration → Finish
ends x c = record { ending = x; final = c }

-- a run goes on along an edge, or is stuck where there is none
unfoldable pub goes_on : (ℕ → Finish) → Configuration → Option ℕ → Finish
goes_on further c (Some e) = further e
goes_on further c None = ends Stuck c

-- "takes the lowest-numbered defined arrow each time. It answers 0 at node 1, else 1 if the budget is used up, else 2 if no arrow is defined, in
-- that order of asking"
unfoldable pub run_from : ℕ → List ℕ → Graph → Configuration → Finish
run_from zero ns g c = cond (eqb c.run.node 1) (ends Arrived c) (ends Spent c)
run_from (suc budget) ns g c =
    cond (eqb c.run.node 1)
    (ends Arrived c)
    (goes_on (λ e. run_from budget ns g (along ns g c e)) c (lowest_defined ns g c.run.node c.memory))

-- where a question is refused, the run is at node 0 with no edge taken: "other counts and nodes come back as zero"
unfoldable pub ends_unless_refused : Validity → List ℤ → Finish → Finish
ends_unless_refused (Ok _) m r = r
ends_unless_refused (Err x) m r = ends (Refuses x) (begun m)

-- "A run from node 0 with a budget", over a memory of which question 12 is asked
unfoldable pub budgeted : List ℕ → Graph → ℕ → List ℤ → Finish
budgeted ns g budget m = ends_unless_refused (memory_validity ns m) m (run_from budget ns g (begun m))

-- the same of a program file on its graph by a construction κ; the file's questions are asked first; the reply "with node and count"
unfoldable pub program_budgeted : Construction → List ℕ → ℕ → List ℤ → Finish
program_budgeted κ s budget m = ends_unless_refused (validity s) m (budgeted (sizes s) (graph κ s) budget m)

unfoldable pub budget_reply : Construction → List ℕ → ℕ → List ℤ → Ended
budget_reply κ s budget m = let r = program_budgeted κ s budget m in record { run = r.final.run; ending = r.ending }

-- an answer in document 01's numbers: 0, 1 or 2, or the question's number and place
unfoldable pub ending_numbers : Ending → List ℕ
ending_numbers Arrived = 0 ∷ []
ending_numbers Spent = 1 ∷ []
ending_numbers Stuck = 2 ∷ []
ending_numbers (Refuses x) = x.number ∷ x.offset ∷ []

-- a reply in document 01's numbers: the answer's, then node and count
unfoldable pub ended_numbers : Ended → List ℕ
ended_numbers e = ending_numbers e.ending ++ (e.run.node ∷ e.run.count ∷ [])

-- the row that a budgeted run of a program file answers
unfoldable pub run_row : Construction → List ℕ → ℕ → List ℤ → List ℕ
run_row κ s budget m = ended_numbers (budget_reply κ s budget m)
