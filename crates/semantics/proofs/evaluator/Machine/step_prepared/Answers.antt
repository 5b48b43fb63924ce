-- `Machine::step_prepared`: refused by a question, or settled by the effect of the edge.
use Rattle.std.specs.Prelude.{Ok}
use mathlib.Core.Path.{◌≡◌, refl, sym, ◌∙◌}
use mathlib.Core.List.{List}
use Prim.Native.Nat.{ℕ}
use Rattle.program.specs.Graph.{Graph}
use Rattle.program.specs.Parts.Prepared.{Prepared}
use Rattle.semantics.specs.Step.{step_validity}
use Rattle.semantics.proofs.Replies.{edge_exists, step_refused, step_settled}
use Rattle.semantics.proofs.evaluator.Machine.step_prepared.Goals as goal
use Rattle.semantics.proofs.evaluator.Machine.step_prepared.Goals.{In-Ok}

-- the questions, all answered yes
fit : (c : In-Ok) (ns : List ℕ) (g : Graph) → Prepared ns g c.args.self.code.now c.args.self.graph.now
    → step_validity ns g c.args.run.node c.args.memory.now c.args.edge ≡ Ok tt
fit c ns g p = sym (c.ask_step.ensures ns g c.args.memory.now p refl) ∙ c.in-Ok.is

pub returns-in-Ok : goal.returns-in-Ok
returns-in-Ok c ns g p =
    let yes = fit (goal.at.returns-in-Ok c).In-Ok ns g p in
    let there = edge_exists ns g _ _ _ yes in
    step_settled ns g _ _ _ yes _ (c.copied_effect-found.ensures ns g p there) _ (c.edge_target.ensures ∙ (p.edge _ there).target) _ _ c.settled.ensures

pub returns-in-Err : goal.returns-in-Err
returns-in-Err c ns g p =
    rw c.refused.ensures (step_refused ns g _ _ _ _ (sym (c.ask_step.ensures ns g c.args.memory.now p refl) ∙ c.in-Err.is))
