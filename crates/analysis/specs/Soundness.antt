-- Soundness of accepted solutions (document 01: the third term; book, Propositions 4.9, 4.25 and 4.31), of the very steps and runs that `Run::step` and `run`
-- promise.
use Rattle.std.specs.Prelude.{◌≡◌, ℕ, Bool, false, not, ◌&&◌, T, List, length, ℤ, Result, Ok, ◌==◌}
use Rattle.signs.specs.Lists.{all_of, indices}
use Rattle.program.specs.File.{sizes}
use Rattle.program.specs.Graph.{Graph, graph}
use Rattle.program.specs.declared.Construction.{Construction}
use Rattle.semantics.specs.Budget.{program_budgeted}
use Rattle.semantics.specs.Expression.{fault_number}
use Rattle.semantics.specs.Replay.{program_replay, program_outcomes}
use Rattle.semantics.specs.Step.{Configuration, begun, leaves, edge_effect}
use Rattle.semantics.specs.declared.Effect.{Effect}
use Rattle.semantics.specs.declared.Effect.TheVariants.{Undefined as Fails, Unchanged, Stored}
use Rattle.semantics.specs.declared.Fault.{Fault}
use Rattle.semantics.specs.declared.Outcome.{Outcome}
use Rattle.semantics.specs.declared.Outcome.TheVariants.{Taken, Undefined as Stays, Refused}
use Rattle.analysis.specs.Abstraction.{abstract_memory}
use Rattle.analysis.specs.Records.{has_at, has_initial}
use Rattle.analysis.specs.declared.Mark.{Mark}
use Rattle.analysis.specs.declared.Mark.TheVariants.{Clean}
use Rattle.analysis.specs.declared.Unreadable.{Unreadable}
use Rattle.analysis.specs.declared.Verdict.{Verdict}
use Rattle.analysis.specs.declared.Verdict.TheVariants.{Accepted}

-- "To meet an index below zero is to be undefined for reason 34.": of a fault, of a call's answer, of an effect
unfoldable pub is_negative_index : Fault → Bool
is_negative_index f = fault_number f == 34

unfoldable pub meets_in_call : Outcome → Bool
meets_in_call Taken = false
meets_in_call (Stays f) = is_negative_index f
meets_in_call (Refused x) = false

unfoldable pub meets_in_effect : Effect → Bool
meets_in_effect (Fails f) = is_negative_index f
meets_in_effect Unchanged = false
meets_in_effect (Stored c z) = false

-- "A sheet has a memory's record at a node": a solution has that of a configuration
unfoldable pub has_configuration : List ℕ → List ℕ → Configuration → Bool
has_configuration ns solution c = has_at ns solution c.run.node (abstract_memory ns c.memory)

-- no edge out of a configuration's node meets a negative index
unfoldable pub no_edge_meets : List ℕ → Graph → Configuration → Bool
no_edge_meets ns g c =
    all_of
    (λ e. not (leaves g e c.run.node && meets_in_effect (edge_effect ns g c.memory e)))
    (indices (length g.edges))

-- what holds of a memory, a list of step calls of a program file and a budget, on the graph by a construction: after the calls, from a fresh run, the solution has the memory's record at
-- the node reached, and so it has where the budgeted run ends. Where the mark is clean, no call of the list meets a negative index, and no edge out of the
-- node reached does, taken or not
pub record Kept (κ : Construction) (s solution : List ℕ) (mark : Mark) (m : List ℤ) (calls : List ℕ) (budget : ℕ) : Type 0 where
  pub reached : T (has_configuration (sizes s) solution (program_replay κ s (begun m) calls))
  pub run_reached : T (has_configuration (sizes s) solution (program_budgeted κ s budget m).final)
  pub no_call_meets : mark ≡ Clean → T (all_of (λ o. not (meets_in_call o)) (program_outcomes κ s (begun m) calls))
  pub replay_no_edge_meets : mark ≡ Clean → T (no_edge_meets (sizes s) (graph κ s) (program_replay κ s (begun m) calls))
  pub run_no_edge_meets : mark ≡ Clean → T (no_edge_meets (sizes s) (graph κ s) (program_budgeted κ s budget m).final)

-- the same of every memory whose record is in the start list, every list of calls and every budget
unfoldable pub Sound : Construction → List ℕ → List ℕ → List ℕ → Mark → Type 0
Sound κ s initial solution mark =
    (m : List ℤ) →
    T (has_initial (sizes s) initial (abstract_memory (sizes s) m)) →
    (calls : List ℕ) (budget : ℕ) →
    Kept κ s solution mark m calls budget

-- the third term for an answer to a program file, a start list and a solution, on the graph by the construction that was judged for: where the answer is that the
-- solution is accepted, with a mark, all that
-- is so kept
unfoldable pub ThirdTermFor : Construction → List ℕ → List ℕ → List ℕ → Result Verdict Unreadable → Type 0
ThirdTermFor κ s initial solution answer = (mark : Mark) → answer ≡ Ok (Accepted mark) → Sound κ s initial solution mark
