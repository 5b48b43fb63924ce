-- `running::run_on`: refused by the file's questions, or a run over the prepared program.
use mathlib.Core.Path.{◌≡◌, refl, ap, ◌∙◌, sym}
use mathlib.Core.List.{List}
use Prim.Native.Nat.{ℕ}
use lib.IntN.{ℤ}
use Rattle.program.specs.declared.Construction.{Construction}
use Rattle.semantics.specs.Budget.{program_budgeted, budget_reply, ended_numbers, run_row}
use Rattle.semantics.specs.Parts.Running.{EndsAs}
use Rattle.semantics.specs.declared.Ended.{Ended}
use Rattle.semantics.proofs.Runs.{program_budgeted_lem, refused_budgeted}
use Rattle.semantics.proofs.running.run_on.Goals as goal

-- the two clauses of the contract
whole : (κ : Construction) (s : List ℕ) (budget : ℕ) (m : List ℤ) {m' : List ℤ} {r : Ended} → EndsAs (program_budgeted κ s budget m) m' r
    → record { value : (r ≡ budget_reply κ s budget m) × (m' ≡ (program_budgeted κ s budget m).final.memory); numbers : ended_numbers r ≡ run_row κ s budget m }
unfolding budget_reply run_row
whole κ s budget m k = record { value = (k.reply, k.memory); numbers = ap ended_numbers k.reply }

pub returns-in-Ok : goal.returns-in-Ok
returns-in-Ok c =
    let made = c.prepare_linked.ensures.prepared in
    let fit = c.in-Ok.is in
    whole _ _ _ _ (rw (program_budgeted_lem _ _ (sym made.asked ∙ fit) _ _) (c.run_prepared.ensures _ _ (made.prepared fit)))

pub returns-in-Err : goal.returns-in-Err
returns-in-Err c =
    let made = c.prepare_linked.ensures.prepared in
    whole _ _ _ _ (rw (refused_budgeted _ _ _ (sym made.asked ∙ c.in-Err.is) _ _) (record { reply = c.refused.ensures; memory = refl }))
