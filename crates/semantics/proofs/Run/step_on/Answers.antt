-- `Run::step_on`: refused by the file's questions, or a step over the prepared program.
use mathlib.Core.Path.{◌≡◌, ap, ◌∙◌, sym}
use mathlib.Core.List.{List}
use Prim.Native.Nat.{ℕ}
use lib.IntN.{ℤ}
use Rattle.program.specs.declared.Construction.{Construction}
use Rattle.semantics.specs.Step.{program_step, step_reply, stepped_numbers, step_row}
use Rattle.semantics.specs.declared.Run.{Run}
use Rattle.semantics.specs.declared.Stepped.{Stepped}
use Rattle.semantics.proofs.Replies.{Replied, program_refused, program_replied}
use Rattle.semantics.proofs.Run.step_on.Goals as goal

-- the two clauses of the contract
whole : {κ : Construction} {s : List ℕ} {run : Run} {e : ℕ} {m m' : List ℤ} {r : Stepped} → Replied κ s run e m m' r
    → record {
      value : (r ≡ step_reply κ s (record { run = run; memory = m }) e) × (m' ≡ (program_step κ s (record { run = run; memory = m }) e).memory);
      numbers : stepped_numbers r ≡ step_row κ s (record { run = run; memory = m }) e;
    }
unfolding step_row
whole k = record { value = (k.reply, k.memory); numbers = ap stepped_numbers k.reply }

pub returns-in-Ok : goal.returns-in-Ok
returns-in-Ok c =
    let made = c.prepare.ensures in
    whole (program_replied _ _ _ _ _ (sym made.asked ∙ c.in-Ok.is) _ _ (c.step_prepared.ensures _ _ (made.prepared c.in-Ok.is)))

pub returns-in-Err : goal.returns-in-Err
returns-in-Err c =
    let made = c.prepare.ensures in
    rw c.refused.ensures (whole (program_refused _ _ _ _ _ _ (sym made.asked ∙ c.in-Err.is)))
