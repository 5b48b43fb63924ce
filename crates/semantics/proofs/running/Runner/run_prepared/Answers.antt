-- `Runner::run_prepared`: refused with 12, or a run in the memory.
use mathlib.Core.Path.{◌≡◌, refl, sym, ◌∙◌}
use mathlib.Core.List.{List}
use Prim.Native.Nat.{ℕ}
use Rattle.program.specs.Graph.{Graph}
use Rattle.program.specs.Parts.Prepared.{Prepared}
use Rattle.semantics.specs.Step.{memory_validity}
use Rattle.semantics.proofs.Runs.{budgeted_run, refused_run}
use Rattle.semantics.proofs.Steps.{memory_fit, asked_cells}
use Rattle.semantics.proofs.running.Runner.run_prepared.Goals as goal
use Rattle.semantics.proofs.running.Runner.run_prepared.Goals.{After-ask}

-- question 12, as it is asked
asked : (c : After-ask) (ns : List ℕ) (g : Graph) → Prepared ns g c.args.self.machine.code.now c.args.self.machine.graph.now → c.ask.result ≡ memory_validity ns c.args.memory.now
asked c ns g p = c.ask.ensures ∙ asked_cells ns _ _ _ refl (c.cell_count-cells.ensures ∙ p.coded.cells)

pub returns-in-Ok : goal.returns-in-Ok
returns-in-Ok c ns g p =
    let fit = sym (asked (goal.at.returns-in-Ok c).After-ask ns g p) ∙ c.in-Ok.is in
    rw (budgeted_run ns g _ _ fit) (c.run_copied.ensures ns g p (memory_fit ns _ fit))

pub returns-in-Err : goal.returns-in-Err
returns-in-Err c ns g p =
    rw (refused_run ns g _ _ _ (sym (asked (goal.at.returns-in-Err c).After-ask ns g p) ∙ c.in-Err.is)) (record { reply = c.refused.ensures; memory = refl })
