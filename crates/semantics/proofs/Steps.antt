-- A step moves along an edge or changes nothing, and a memory keeps its length.
use Rattle.std.specs.Prelude.{Err, Ok}
use mathlib.Core.Path.{◌≡◌, refl, sym, ◌∙◌}
use mathlib.Core.Logic.{◌≢◌}
use mathlib.Core.List.{List, [], ◌∷◌}
use Prim.Native.Nat.{ℕ, ◌<◌}
use native.Mathlib.Omega.{arith}
use lib.Dec.{T, eqb, ltb, ltb→lt}
use lib.IntN.{ℤ}
use lib.ListN.{length, length-set}
use borrow.Author.Tests.{eqb-true, eq-eqb, ltb-true, lt-ltb}
use mir.Facts.{and_yes}
use Rattle.program.specs.Asking.{ask, then_ask, in_turn, Validity}
use Rattle.program.specs.File.{sizes, cell_count}
use Rattle.program.specs.Graph.{Graph, graph, edge_at}
use Rattle.program.specs.Questions.{validity}
use Rattle.program.specs.declared.Construction.{Construction}
use Rattle.program.specs.declared.Refusal.{Refusal}
use Rattle.program.proofs.Laws.{ask_fit, turn_fit}
use Rattle.program.proofs.Tests.{passed, is_true}
use Rattle.semantics.specs.Action.{after, is_defined}
use Rattle.semantics.specs.Parts.Replaying.{replay, outcomes, step}
use Rattle.semantics.specs.Replay.{program_replay, program_outcomes}
use Rattle.semantics.specs.Step.{Configuration, leaves, edge_effect, memory_validity, step_validity, outcome_by, outcome_unless_refused, outcome, along, next, program_outcome, program_step}
use Rattle.semantics.specs.declared.Effect.{Effect}
use Rattle.semantics.specs.declared.Effect.TheVariants.{Undefined as Fails, Unchanged, Stored}
use Rattle.semantics.specs.declared.Outcome.{Outcome}
use Rattle.semantics.specs.declared.Outcome.TheVariants.{Taken, Undefined as Stays, Refused as Refuses}

-- edge e can be taken: the memory has as many cells as the names, the node is in the graph, and the edge leaves it and is defined
pub record Takable (ns : List ℕ) (g : Graph) (c : Configuration) (e : ℕ) : Type 0 where
  pub room : length c.memory ≡ cell_count ns
  pub node_inside : c.run.node < g.nodes
  pub edge_leaves : T (leaves g e c.run.node)
  pub edge_defined : T (is_defined (edge_effect ns g c.memory e))

-- an answer is Taken where no question is refused and the effect is defined, and only there
taken_parts : (v : Validity) (x : Effect) → outcome_unless_refused v (outcome_by x) ≡ Taken → (v ≡ Ok tt) × T (is_defined x)
unfolding outcome_unless_refused outcome_by is_defined
taken_parts (Ok _) (Fails f) p = absurd (let z : ◌≡◌ {A = ℕ} 0 1 = cc in omega arith)
taken_parts (Ok _) Unchanged p = (refl, tt)
taken_parts (Ok _) (Stored c z) p = (refl, tt)
taken_parts (Err r) x p = absurd (let z : ◌≡◌ {A = ℕ} 0 1 = cc in omega arith)

defined_taken : (x : Effect) → T (is_defined x) → outcome_by x ≡ Taken
unfolding outcome_by is_defined
defined_taken (Fails f) t = absurd t
defined_taken Unchanged t = refl
defined_taken (Stored c z) t = refl

-- question 12: the memory has as many cells as the names
pub memory_fit : (ns : List ℕ) (m : List ℤ) → memory_validity ns m ≡ Ok tt → length m ≡ cell_count ns
unfolding memory_validity
memory_fit ns m p = eqb-true (length m) (cell_count ns) (ask_fit _ 12 0 p)

pub fit_memory : (ns : List ℕ) (m : List ℤ) → length m ≡ cell_count ns → memory_validity ns m ≡ Ok tt
unfolding memory_validity ask
fit_memory ns m p = rw (eq-eqb (length m) (cell_count ns) p)

-- an edge that leaves a node exists
pub leaves_below : (g : Graph) (e node : ℕ) → T (leaves g e node) → e < length g.edges
unfolding leaves
leaves_below g e node l = ltb→lt e (length g.edges) (and_yes (ltb e (length g.edges)) (eqb (edge_at g e).source node) l).0

module _ (ns : List ℕ) (g : Graph) (c : Configuration) (e : ℕ) where
  pub taken_takable : outcome ns g c e ≡ Taken → Takable ns g c e
  unfolding outcome step_validity
  taken_takable p =
      let parts = taken_parts (step_validity ns g c.run.node c.memory e) (edge_effect ns g c.memory e) p in
      record {
        room = memory_fit ns c.memory (turn_fit _ 0 parts.0);
        node_inside = ltb-true _ _ (ask_fit _ 14 0 (turn_fit _ 1 parts.0));
        edge_leaves = passed (ask_fit _ 15 0 (turn_fit _ 2 parts.0));
        edge_defined = parts.1;
      }

  pub takable_taken : Takable ns g c e → outcome ns g c e ≡ Taken
  unfolding outcome step_validity outcome_unless_refused in_turn then_ask ask
  takable_taken o =
      rw (fit_memory ns c.memory o.room, lt-ltb c.run.node g.nodes o.node_inside, is_true (leaves g e c.run.node) o.edge_leaves)
      (defined_taken (edge_effect ns g c.memory e) o.edge_defined)

  -- along the edge where it is taken, and else nothing changes
  pub taken_step : outcome ns g c e ≡ Taken → step ns g c e ≡ along ns g c e
  unfolding step next
  taken_step p = rw p

  pub untaken_step : outcome ns g c e ≢ Taken → step ns g c e ≡ c
  unfolding step next
  untaken_step d = by (outcome ns g c e) d
    where
      by : (o : Outcome) → o ≢ Taken → next ns g c e o ≡ c
      by Taken d = absurd (d refl)
      by (Stays f) d = refl
      by (Refuses x) d = refl

-- an effect leaves a memory as long as it was, and so do a step and a list of calls
pub after_length : (m : List ℤ) (x : Effect) → length (after m x) ≡ length m
unfolding after
after_length m (Fails f) = refl
after_length m Unchanged = refl
after_length m (Stored c z) = length-set m c z

module _ (ns : List ℕ) (g : Graph) where
  pub along_length : (c : Configuration) (e : ℕ) → length (along ns g c e).memory ≡ length c.memory
  unfolding along
  along_length c e = after_length c.memory (edge_effect ns g c.memory e)

  next_length : (c : Configuration) (e : ℕ) (o : Outcome) → length (next ns g c e o).memory ≡ length c.memory
  unfolding next
  next_length c e Taken = along_length c e
  next_length c e (Stays f) = refl
  next_length c e (Refuses x) = refl

  pub step_length : (c : Configuration) (e : ℕ) → length (step ns g c e).memory ≡ length c.memory
  unfolding step
  step_length c e = next_length c e (outcome ns g c e)

  pub replay_length : (c : Configuration) (es : List ℕ) → length (replay ns g c es).memory ≡ length c.memory
  unfolding replay
  replay_length c [] = refl
  replay_length c (e ∷ es) = replay_length (step ns g c e) es ∙ step_length c e

-- of a program file: the same where it is well formed, and nothing where it is not
module _ (κ : Construction) (s : List ℕ) where
  module _ (fit : validity s ≡ Ok tt) (c : Configuration) (e : ℕ) where
    pub program_outcome_lem : program_outcome κ s c e ≡ outcome (sizes s) (graph κ s) c e
    unfolding program_outcome outcome_unless_refused
    program_outcome_lem = rw fit

    pub program_step_lem : program_step κ s c e ≡ step (sizes s) (graph κ s) c e
    unfolding program_step step
    program_step_lem = rw program_outcome_lem

  module _ (fit : validity s ≡ Ok tt) where
    pub program_replay_lem : (c : Configuration) (es : List ℕ) → program_replay κ s c es ≡ replay (sizes s) (graph κ s) c es
    unfolding program_replay replay
    program_replay_lem c [] = refl
    program_replay_lem c (e ∷ es) = rw (program_step_lem fit c e) (program_replay_lem (step (sizes s) (graph κ s) c e) es)

    pub program_outcomes_lem : (c : Configuration) (es : List ℕ) → program_outcomes κ s c es ≡ outcomes (sizes s) (graph κ s) c es
    unfolding program_outcomes outcomes
    program_outcomes_lem c [] = refl
    program_outcomes_lem c (e ∷ es) = rw (program_outcome_lem fit c e, program_step_lem fit c e, program_outcomes_lem (step (sizes s) (graph κ s) c e) es)

  module _ (x : Refusal) (refused : validity s ≡ Err x) (c : Configuration) (e : ℕ) where
    pub refused_outcome : program_outcome κ s c e ≡ Refuses x
    unfolding program_outcome outcome_unless_refused
    refused_outcome = rw refused

    pub refused_step : program_step κ s c e ≡ c
    unfolding program_step next
    refused_step = rw refused_outcome

  pub program_step_length : (c : Configuration) (e : ℕ) → length (program_step κ s c e).memory ≡ length c.memory
  unfolding program_step
  program_step_length c e = next_length (sizes s) (graph κ s) c e (program_outcome κ s c e)

-- question 12 as it is asked of numbers
pub asked_cells : (ns : List ℕ) (m : List ℤ) (cells count : ℕ) → length m ≡ cells → count ≡ cell_count ns → ask (eqb cells count) 12 0 ≡ memory_validity ns m
unfolding memory_validity
asked_cells ns m cells count e p = rw (sym e, p)
