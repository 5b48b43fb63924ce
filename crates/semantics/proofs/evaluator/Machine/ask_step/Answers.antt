-- `Machine::ask_step`: the questions in turn.
use mathlib.Core.Path.{◌≡◌, ap, sym, ◌∙◌}
use mathlib.Core.Bool.{Bool}
use mathlib.Core.List.{List}
use lib.Dec.{ltb}
use lib.IntN.{ℤ}
use lib.ListN.{length}
use Prim.Native.Nat.{ℕ}
use Rattle.program.specs.Asking.{ask, in_turn}
use Rattle.program.specs.Graph.{Graph}
use Rattle.program.specs.Parts.Prepared.{Prepared}
use Rattle.program.proofs.Asking.{raised, passed, last_asked}
use Rattle.semantics.specs.Step.{memory_validity, step_validity}
use Rattle.semantics.proofs.Steps.{asked_cells}
use Rattle.semantics.proofs.evaluator.Machine.ask_step.Goals as goal
use Rattle.semantics.proofs.evaluator.Machine.ask_step.Goals.{After-ask, After-ask-2}

-- question 12 and question 14, as they are asked
module _ (ns : List ℕ) (g : Graph) where
  asked : (c : After-ask) (m : List ℤ) → Prepared ns g c.args.self.code.now c.args.self.graph.now → length m ≡ c.args.cells → c.ask.result ≡ memory_validity ns m
  asked c m p e = c.ask.ensures ∙ asked_cells ns m _ _ e (c.cell_count.ensures ∙ p.coded.cells)

  inside : (c : After-ask-2) → Prepared ns g c.args.self.code.now c.args.self.graph.now → c.ask-2.result ≡ ask (ltb c.args.node g.nodes) 14 0
  inside c p = c.ask-2.ensures ∙ ap (λ (n : ℕ). ask (ltb c.args.node n) 14 0) (c.node_count.ensures ∙ p.nodes)

pub returns-in_err-ask : goal.returns-in_err-ask
unfolding step_validity in_turn
returns-in_err-ask c ns g m p e = raised _ _ (asked ns g (goal.at.returns-in_err-ask c).After-ask m p e) c.from_residual.ensures.1 c.in_err-ask.was

pub returns-in_err-ask-2 : goal.returns-in_err-ask-2
unfolding step_validity in_turn
returns-in_err-ask-2 c ns g m p e =
    let at = goal.at.returns-in_err-ask-2 c in
    passed (sym (asked ns g at.After-ask m p e) ∙ c.in_ok-ask.was)
    (raised _ _ (inside ns g at.After-ask-2 p) c.from_residual-in_err-ask-2.ensures.1 c.in_err-ask-2.was)

pub returns : goal.returns
unfolding step_validity in_turn
returns c ns g m p e =
    let at = goal.at.returns c in
    passed (sym (asked ns g at.After-ask m p e) ∙ c.in_ok-ask.was)
    (passed (sym (inside ns g at.After-ask-2 p) ∙ c.in_ok-ask-2.was)
    (last_asked _ _ (c.ask-3.ensures ∙ ap (λ (b : Bool). ask b 15 0) (c.leaves.ensures ns _ g p))))
