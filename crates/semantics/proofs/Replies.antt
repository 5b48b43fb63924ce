-- The reply of a step by the answer to its questions and the effect of its edge.
use Rattle.std.specs.Prelude.{Err, Ok}
use mathlib.Core.Path.{◌≡◌, ◌∙◌, ap}
use mathlib.Core.List.{List}
use Prim.Native.Nat.{ℕ, ◌<◌}
use lib.IntN.{ℤ}
use lib.ListN.{length}
use Rattle.program.specs.File.{sizes}
use Rattle.program.specs.Graph.{Graph, graph, edge_at}
use Rattle.program.specs.Questions.{validity}
use Rattle.program.specs.declared.Construction.{Construction}
use Rattle.program.specs.declared.Refusal.{Refusal}
use Rattle.semantics.specs.Action.{after}
use Rattle.semantics.specs.Parts.Replaying.{step}
use Rattle.semantics.specs.Step.{edge_effect, step_validity, outcome_by, outcome_unless_refused, outcome, along, next, program_outcome, program_step, step_reply}
use Rattle.semantics.specs.Parts.Stepping.{run_after, Settled, StepsTo}
use Rattle.semantics.specs.declared.Effect.{Effect}
use Rattle.semantics.specs.declared.Effect.TheVariants.{Undefined as Fails, Unchanged, Stored}
use Rattle.semantics.specs.declared.Outcome.TheVariants.{Refused as Refuses}
use Rattle.semantics.specs.declared.Run.{Run}
use Rattle.semantics.specs.declared.Stepped.{Stepped}
use Rattle.program.proofs.Laws.{ask_fit, turn_fit}
use Rattle.program.proofs.Tests.{passed}
use Rattle.semantics.proofs.Steps.{leaves_below}

-- where no question of a step is refused, the edge exists
pub edge_exists : (ns : List ℕ) (g : Graph) (node : ℕ) (m : List ℤ) (e : ℕ) → step_validity ns g node m e ≡ Ok tt → e < length g.edges
unfolding step_validity
edge_exists ns g node m e p = leaves_below g e node (passed (ask_fit _ 15 0 (turn_fit _ 2 p)))

module _ (ns : List ℕ) (g : Graph) (run : Run) (e : ℕ) (m : List ℤ) where
  -- a refused question: run and memory are as they were
  pub step_refused : (x : Refusal) → step_validity ns g run.node m e ≡ Err x → StepsTo ns g run e m m (record { run = run; outcome = Refuses x })
  unfolding step outcome next outcome_unless_refused
  step_refused x p = record { reply = rw p; memory = rw p }

  -- none refused: by the effect
  pub step_settled : step_validity ns g run.node m e ≡ Ok tt → (x : Effect) → x ≡ edge_effect ns g m e → (target : ℕ) → target ≡ (edge_at g e).target
      → (m' : List ℤ) (r : Stepped) → Settled run target x m m' r → StepsTo ns g run e m m' r
  unfolding step outcome next along outcome_unless_refused outcome_by run_after after
  step_settled p (Fails f) q target t m' r k =
      record { reply = rw (p, ← q) (λ i. record { run = k.handed_back i; outcome = k.answer i }); memory = rw (p, ← q) k.memory }
  step_settled p Unchanged q target t m' r k =
      record { reply = rw (p, ← q, ← t) (λ i. record { run = k.handed_back i; outcome = k.answer i }); memory = rw (p, ← q) (k.memory ∙ ap (after m) q) }
  step_settled p (Stored c z) q target t m' r k =
      record { reply = rw (p, ← q, ← t) (λ i. record { run = k.handed_back i; outcome = k.answer i }); memory = rw (p, ← q) (k.memory ∙ ap (after m) q) }

-- the same of a program file: refused by the file's questions, or a step over its graph
pub record Replied (κ : Construction) (s : List ℕ) (run : Run) (e : ℕ) (m m' : List ℤ) (r : Stepped) : Type 0 where
  pub reply : r ≡ step_reply κ s (record { run = run; memory = m }) e
  pub memory : m' ≡ (program_step κ s (record { run = run; memory = m }) e).memory

module _ (κ : Construction) (s : List ℕ) (run : Run) (e : ℕ) (m : List ℤ) where
  pub program_refused : (x : Refusal) → validity s ≡ Err x → Replied κ s run e m m (record { run = run; outcome = Refuses x })
  unfolding step_reply program_step program_outcome next outcome_unless_refused
  program_refused x p = record { reply = rw p; memory = rw p }

  pub program_replied : validity s ≡ Ok tt → (m' : List ℤ) (r : Stepped) → StepsTo (sizes s) (graph κ s) run e m m' r → Replied κ s run e m m' r
  unfolding step_reply program_step program_outcome outcome_unless_refused step
  program_replied p m' r k = record { reply = rw p k.reply; memory = rw p k.memory }
