-- The step of a run over a graph g whose names have the sizes ns (document 01, "The step" and questions 12, 14 and 15; book, Definitions 1.10,
-- 1.11 and 2.17).
use Rattle.std.specs.Prelude.{ℕ, ◌+◌, min, Bool, ◌&&◌, List, [], ◌∷◌, ◌++◌, eqb, ltb, length, ℤ, Err, Ok}
use Rattle.program.specs.Asking.{ask_plain, in_turn, Validity}
use Rattle.program.specs.File.{sizes, cell_count}
use Rattle.program.specs.Graph.{Graph, edge_at, graph}
use Rattle.program.specs.Questions.{validity}
use Rattle.program.specs.declared.Construction.{Construction}
use Rattle.program.specs.Meaning.{meaning}
use Rattle.semantics.specs.Action.{effect, after}
use Rattle.semantics.specs.Expression.{fault_number}
use Rattle.semantics.specs.declared.Effect.{Effect}
use Rattle.semantics.specs.declared.Effect.TheVariants.{Undefined as Fails, Unchanged, Stored}
use Rattle.semantics.specs.declared.Outcome.{Outcome}
use Rattle.semantics.specs.declared.Outcome.TheVariants.{Taken, Undefined as Stays, Refused as Refuses}
use Rattle.semantics.specs.declared.Run.{Run}
use Rattle.semantics.specs.declared.Stepped.{Stepped}

-- a run with its memory (book: a configuration)
pub record Configuration : Type 0 where
  pub run : Run
  pub memory : List ℤ

-- "A fresh run is at node 0 with no arrow taken."
unfoldable pub fresh : Run
fresh = record { node = 0; count = 0 }

-- a fresh run over a memory
abbrev pub begun : List ℤ → Configuration
begun m = record { run = fresh; memory = m }

-- "Does the arrow exist and leave the node?"
unfoldable pub leaves : Graph → ℕ → ℕ → Bool
leaves g e node = ltb e (length g.edges) && eqb (edge_at g e).source node

-- the effect of an edge's action in a memory
unfoldable pub edge_effect : List ℕ → Graph → List ℤ → ℕ → Effect
edge_effect ns g m e = effect ns m (meaning (edge_at g e).action)

-- "Has the memory as many cells as the script? 12"
unfoldable pub memory_validity : List ℕ → List ℤ → Validity
memory_validity ns m = ask_plain (eqb (length m) (cell_count ns)) 12

-- the questions of a step, asked of a node and a memory: 12, "Is the node in the graph? 14. Does the arrow exist and leave the node? 15."
unfoldable pub step_validity : List ℕ → Graph → ℕ → List ℤ → ℕ → Validity
step_validity ns g node m e =
    in_turn (memory_validity ns m ∷ ask_plain (ltb node g.nodes) 14 ∷ ask_plain (leaves g e node) 15 ∷ [])

-- the answer of a step, by the effect of its edge; and where a question may be refused first
unfoldable pub outcome_by : Effect → Outcome
outcome_by (Fails f) = Stays f
outcome_by Unchanged = Taken
outcome_by (Stored c z) = Taken

unfoldable pub outcome_unless_refused : Validity → Outcome → Outcome
outcome_unless_refused (Ok _) o = o
outcome_unless_refused (Err x) o = Refuses x

-- the answer of a step along edge e
unfoldable pub outcome : List ℕ → Graph → Configuration → ℕ → Outcome
outcome ns g c e =
    outcome_unless_refused (step_validity ns g c.run.node c.memory e) (outcome_by (edge_effect ns g c.memory e))

-- the configuration along edge e: "past 65,535 arrows, the count stays at 65,535"
unfoldable pub along : List ℕ → Graph → Configuration → ℕ → Configuration
along ns g c e =
    record {
      run = record { node = (edge_at g e).target; count = min (c.run.count + 1) 65535 };
      memory = after c.memory (edge_effect ns g c.memory e);
    }

-- "One that is undefined or refused leaves run and memory as they were, any other takes its arrow": the configuration after an answer
unfoldable pub next : List ℕ → Graph → Configuration → ℕ → Outcome → Configuration
next ns g c e Taken = along ns g c e
next ns g c e (Stays f) = c
next ns g c e (Refuses x) = c

-- the same of a program file on its graph by a construction κ; the file's questions are asked first: the answer, the configuration afterwards, and the reply
unfoldable pub program_outcome : Construction → List ℕ → Configuration → ℕ → Outcome
program_outcome κ s c e = outcome_unless_refused (validity s) (outcome (sizes s) (graph κ s) c e)

unfoldable pub program_step : Construction → List ℕ → Configuration → ℕ → Configuration
program_step κ s c e = next (sizes s) (graph κ s) c e (program_outcome κ s c e)

unfoldable pub step_reply : Construction → List ℕ → Configuration → ℕ → Stepped
step_reply κ s c e = record { run = (program_step κ s c e).run; outcome = program_outcome κ s c e }

-- an answer in document 01's numbers: 0, the reason, or the question's number and place
unfoldable pub outcome_numbers : Outcome → List ℕ
outcome_numbers Taken = 0 ∷ []
outcome_numbers (Stays f) = fault_number f ∷ []
outcome_numbers (Refuses x) = x.number ∷ x.offset ∷ []

-- a reply in document 01's numbers: the answer's, then node and count
unfoldable pub stepped_numbers : Stepped → List ℕ
stepped_numbers r = outcome_numbers r.outcome ++ (r.run.node ∷ r.run.count ∷ [])

-- the row that a step of a program file answers
unfoldable pub step_row : Construction → List ℕ → Configuration → ℕ → List ℕ
step_row κ s c e = stepped_numbers (step_reply κ s c e)
