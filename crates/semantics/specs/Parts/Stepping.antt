-- What the functions of the step and the budgeted run ask of each other. No public contract cites these.
use Rattle.std.specs.Prelude.{◌≡◌, List, ℕ, ◌+◌, min, ℤ}
use Rattle.program.specs.Graph.{Graph}
use Rattle.semantics.specs.Action.{after}
use Rattle.semantics.specs.Parts.Replaying.{step}
use Rattle.semantics.specs.Step.{outcome_by, outcome}
use Rattle.semantics.specs.declared.Effect.{Effect}
use Rattle.semantics.specs.declared.Effect.TheVariants.{Undefined as Fails, Unchanged, Stored}
use Rattle.semantics.specs.declared.Run.{Run}
use Rattle.semantics.specs.declared.Stepped.{Stepped}

-- the run after an edge to a node whose effect is this: "An action is undefined, the memory and the run stay"
unfoldable pub run_after : Run → ℕ → Effect → Run
run_after run target (Fails f) = run
run_after run target Unchanged = record { node = target; count = min (run.count + 1) 65535 }
run_after run target (Stored c z) = record { node = target; count = min (run.count + 1) 65535 }

-- the reply and the memory of a step whose edge has this effect
pub record Settled (run : Run) (target : ℕ) (x : Effect) (before after-it : List ℤ) (r : Stepped) : Type 0 where
  pub handed_back : r.run ≡ run_after run target x
  pub answer : r.outcome ≡ outcome_by x
  pub memory : after-it ≡ after before x

-- the reply of a step over a graph, and the memory afterwards
pub record StepsTo (ns : List ℕ) (g : Graph) (run : Run) (e : ℕ) (before after-it : List ℤ) (r : Stepped) : Type 0 where
  pub reply : r ≡ record { run = (step ns g (record { run = run; memory = before }) e).run; outcome = outcome ns g (record { run = run; memory = before }) e }
  pub memory : after-it ≡ (step ns g (record { run = run; memory = before }) e).memory
