-- The theorems on steps and runs for the crate above, on one page. Their proofs are in the modules that they cite.
use Rattle.std.specs.Prelude.{Err, Ok, None, Some}
use mathlib.Core.Path.{◌≡◌}
use mathlib.Core.Bool.{Bool, true, false, ◌&&◌}
use mathlib.Core.List.{List}
use mathlib.Core.Logic.{◌≢◌}
use Prim.Native.Nat.{ℕ, ◌+◌, ◌≤◌, ◌<◌, min}
use lib.Dec.{T, eqb}
use lib.IntN.{ℤ}
use lib.ListN.{length, get_or, replicate}
use Rattle.program.specs.File.{sizes, cells_of, cell_count, first_cell, is_variable, is_array}
use Rattle.program.specs.FirstSuch.{first_such}
use Rattle.program.specs.Graph.{Graph, edge_at, graph, guards, done}
use Rattle.program.specs.Parts.Guards.{all_false}
use Rattle.program.specs.Parts.Prepared.{edge_count_place, source_in, Prepared, Following}
use Rattle.program.specs.Questions.{validity}
use Rattle.program.specs.Parts.Sorted.{arith_named, boolean_named, meaning_named}
use Rattle.program.specs.Syntax.{Arith, Boolean, Command}
use Rattle.program.specs.declared.Construction.{Construction}
use Rattle.program.specs.declared.Construction.TheVariants.{Deterministic}
use Rattle.program.specs.declared.Refusal.{Refusal}
use Rattle.program.specs.Meaning.{Meaning}
use Rattle.semantics.specs.Action.{effect, after, is_defined}
use Rattle.semantics.specs.Budget.{lowest_defined, Finish, ends, run_from, budgeted, program_budgeted, ended_numbers}
use Rattle.semantics.specs.Expression.{cell_value, at, place_of, value, truth_in, Evaluation}
use Rattle.semantics.specs.Parts.Replaying.{replay, outcomes, step}
use Rattle.semantics.specs.Replay.{program_replay, program_outcomes}
use Rattle.semantics.specs.Step.{Configuration, begun, leaves, edge_effect, memory_validity, outcome, along, program_outcome, program_step, stepped_numbers}
use Rattle.semantics.specs.declared.Effect.{Effect}
use Rattle.semantics.specs.declared.Ended.{Ended}
use Rattle.semantics.specs.declared.Stepped.{Stepped}
use Rattle.semantics.specs.declared.Effect.TheVariants.{Stored}
use Rattle.semantics.specs.declared.Ending.TheVariants.{Arrived, Spent, Stuck, Refused as Ends}
use Rattle.semantics.specs.declared.Outcome.TheVariants.{Taken, Refused as Refuses}
use Rattle.semantics.proofs.Alone
use Rattle.semantics.proofs.Edges
use Rattle.semantics.proofs.Exit
use Rattle.semantics.proofs.Named
use Rattle.semantics.proofs.Readback
use Rattle.semantics.proofs.Runs
use Rattle.semantics.proofs.Runs.{Replayed, Stops}
use Rattle.semantics.proofs.Steps
use Rattle.semantics.proofs.Steps.{Takable}

-- ---- A step

-- question 12: the memory has as many cells as the names
pub memory_fit : (ns : List ℕ) (m : List ℤ) → memory_validity ns m ≡ Ok tt → length m ≡ cell_count ns
memory_fit = Steps.memory_fit

pub fit_memory : (ns : List ℕ) (m : List ℤ) → length m ≡ cell_count ns → memory_validity ns m ≡ Ok tt
fit_memory = Steps.fit_memory

-- an edge that leaves a node exists
pub leaves_below : (g : Graph) (e node : ℕ) → T (leaves g e node) → e < length g.edges
leaves_below = Steps.leaves_below

module _ (ns : List ℕ) (g : Graph) (c : Configuration) (e : ℕ) where
  -- a call is answered Taken where the edge can be taken, and only there
  pub taken_takable : outcome ns g c e ≡ Taken → Takable ns g c e
  taken_takable = Steps.taken_takable ns g c e

  pub takable_taken : Takable ns g c e → outcome ns g c e ≡ Taken
  takable_taken = Steps.takable_taken ns g c e

  -- a step moves along the edge where the call is answered Taken, and else changes nothing
  pub taken_step : outcome ns g c e ≡ Taken → step ns g c e ≡ along ns g c e
  taken_step = Steps.taken_step ns g c e

  pub untaken_step : outcome ns g c e ≢ Taken → step ns g c e ≡ c
  untaken_step = Steps.untaken_step ns g c e

-- ---- A memory has as many cells as before

pub after_length : (m : List ℤ) (x : Effect) → length (after m x) ≡ length m
after_length = Steps.after_length

module _ (ns : List ℕ) (g : Graph) where
  pub along_length : (c : Configuration) (e : ℕ) → length (along ns g c e).memory ≡ length c.memory
  along_length = Steps.along_length ns g

  pub step_length : (c : Configuration) (e : ℕ) → length (step ns g c e).memory ≡ length c.memory
  step_length = Steps.step_length ns g

  pub replay_length : (c : Configuration) (es : List ℕ) → length (replay ns g c es).memory ≡ length c.memory
  replay_length = Steps.replay_length ns g

  pub run_length : (budget : ℕ) (c : Configuration) → length (run_from budget ns g c).final.memory ≡ length c.memory
  run_length = Runs.run_length ns g

  pub budgeted_length : (budget : ℕ) (m : List ℤ) → length (budgeted ns g budget m).final.memory ≡ length m
  budgeted_length = Runs.budgeted_length ns g

-- ---- A budgeted run

module _ (ns : List ℕ) (g : Graph) where
  -- the lowest defined edge leaves the node and is defined; where there is none, no edge out of the node is defined
  pub lowest_found : (node : ℕ) (m : List ℤ) (e : ℕ) → lowest_defined ns g node m ≡ Some e → T (leaves g e node) × T (is_defined (edge_effect ns g m e))
  lowest_found = Runs.lowest_found ns g

  pub lowest_none : (node : ℕ) (m : List ℤ) → lowest_defined ns g node m ≡ None
      → (e : ℕ) → T (leaves g e node) → is_defined (edge_effect ns g m e) ≡ false
  lowest_none = Runs.lowest_none ns g

  -- what holds where a run starts and is kept by each edge taken gives what holds where it ends
  pub run_ends : (I : Configuration → Type 0) (P : Finish → Type 0)
      → ((c : Configuration) (e : ℕ) → lowest_defined ns g c.run.node c.memory ≡ Some e → I c → I (along ns g c e))
      → ((c : Configuration) → I c → c.run.node ≡ 1 → P (ends Arrived c))
      → ((c : Configuration) → I c → c.run.node ≢ 1 → P (ends Spent c))
      → ((c : Configuration) → I c → c.run.node ≢ 1 → lowest_defined ns g c.run.node c.memory ≡ None → P (ends Stuck c))
      → (budget : ℕ) (c : Configuration) → I c → P (run_from budget ns g c)
  run_ends = Runs.run_ends ns g

  -- where question 12 is answered yes, a budgeted run is a run from node 0, and where it is refused, none
  pub budgeted_run : (budget : ℕ) (m : List ℤ) → memory_validity ns m ≡ Ok tt → budgeted ns g budget m ≡ run_from budget ns g (begun m)
  budgeted_run = Runs.budgeted_run ns g

  pub refused_run : (budget : ℕ) (m : List ℤ) (x : Refusal) → memory_validity ns m ≡ Err x → budgeted ns g budget m ≡ ends (Ends x) (begun m)
  refused_run = Runs.refused_run ns g

  -- it has arrived where its node is 1, and only there; where it is stuck, no edge out of its node is defined
  pub run_stops : (budget : ℕ) (c : Configuration) → Stops ns g (run_from budget ns g c)
  run_stops = Runs.run_stops ns g

  pub budgeted_stops : (budget : ℕ) (m : List ℤ) → Stops ns g (budgeted ns g budget m)
  budgeted_stops = Runs.budgeted_stops ns g

  -- a run is a list of at most `budget` step calls, all answered Taken, and as many as the budget where that is spent: in a graph whose edges enter
  -- its own nodes
  module _ (inside : (e : ℕ) → e < length g.edges → (edge_at g e).target < g.nodes) where
    pub run_replayed : (budget : ℕ) (c : Configuration) → length c.memory ≡ cell_count ns → c.run.node < g.nodes
        → Replayed ns g budget c (run_from budget ns g c)
    run_replayed = Runs.run_replayed ns g inside

    pub budgeted_replayed : (budget : ℕ) (m : List ℤ) → 0 < g.nodes → memory_validity ns m ≡ Ok tt
        → Replayed ns g budget (begun m) (budgeted ns g budget m)
    budgeted_replayed = Runs.budgeted_replayed ns g inside

  -- the count is the number of edges taken: of any list of calls all answered Taken, and so of a run; up to 65,535
  pub replay_count : (c : Configuration) (es : List ℕ) → c.run.count ≤ 65535 → outcomes ns g c es ≡ replicate (length es) Taken
      → (replay ns g c es).run.count ≡ min (c.run.count + length es) 65535
  replay_count = Runs.replay_count ns g

  pub run_count : (budget : ℕ) (r : Finish) (c : Configuration) → c.run.count ≤ 65535 → (p : Replayed ns g budget c r)
      → r.final.run.count ≡ min (c.run.count + length p.calls) 65535
  run_count = Runs.run_count ns g

  pub fresh_count : (budget : ℕ) (r : Finish) (m : List ℤ) → budget ≤ 65535 → (p : Replayed ns g budget (begun m) r)
      → r.final.run.count ≡ length p.calls
  fresh_count = Runs.fresh_count ns g

-- ---- Names: what is named is inside the memory

module _ (ns : List ℕ) where
  -- a variable that is there has one cell, and an array as many as its size says
  pub variable_there : (x : ℕ) → T (is_variable ns x) → (x < length ns) × (cells_of (get_or ns x 0) ≡ 1)
  variable_there = Named.variable_there ns

  pub array_there : (x : ℕ) → T (is_array ns x) → (x < length ns) × (get_or ns x 0 ≡ cells_of (get_or ns x 0))
  array_there = Named.array_there ns

  -- the cell of a variable, of an element and of a store is inside the memory
  pub variable_inside : (x : ℕ) → T (is_variable ns x) → first_cell ns x < cell_count ns
  variable_inside = Named.variable_inside ns

  pub place_inside : (x : ℕ) → T (is_array ns x) → (v : Evaluation) (c : ℕ) → place_of ns x v ≡ at c → c < cell_count ns
  place_inside = Named.place_inside ns

  pub stores_inside : (m : List ℤ) (x : Meaning) → T (meaning_named ns x) → (c : ℕ) (z : ℤ) → effect ns m x ≡ Stored c z → c < cell_count ns
  stores_inside = Named.stores_inside ns

  -- values, truths and effects are the same in two memories with the same values in the names' cells
  module _ (m m' : List ℤ) (same : (c : ℕ) → c < cell_count ns → cell_value m c ≡ cell_value m' c) where
    pub value_same : (a : Arith) → T (arith_named ns a) → value ns m a ≡ value ns m' a
    value_same = Named.value_same ns m m' same

    pub truth_same : (b : Boolean) → T (boolean_named ns b) → truth_in ns m b ≡ truth_in ns m' b
    truth_same = Named.truth_same ns m m' same

    pub effect_same : (x : Meaning) → T (meaning_named ns x) → effect ns m x ≡ effect ns m' x
    effect_same = Named.effect_same ns m m' same

-- ---- Of a program file, on its graph by any construction

module _ (κ : Construction) (s : List ℕ) where
  -- well formed: steps and runs are those of its sizes and graph, and a budgeted run is a list of step calls
  module _ (fit : validity s ≡ Ok tt) where
    pub program_outcome_lem : (c : Configuration) (e : ℕ) → program_outcome κ s c e ≡ outcome (sizes s) (graph κ s) c e
    program_outcome_lem = Steps.program_outcome_lem κ s fit

    pub program_step_lem : (c : Configuration) (e : ℕ) → program_step κ s c e ≡ step (sizes s) (graph κ s) c e
    program_step_lem = Steps.program_step_lem κ s fit

    pub program_replay_lem : (c : Configuration) (es : List ℕ) → program_replay κ s c es ≡ replay (sizes s) (graph κ s) c es
    program_replay_lem = Steps.program_replay_lem κ s fit

    pub program_outcomes_lem : (c : Configuration) (es : List ℕ) → program_outcomes κ s c es ≡ outcomes (sizes s) (graph κ s) c es
    program_outcomes_lem = Steps.program_outcomes_lem κ s fit

    pub program_budgeted_lem : (budget : ℕ) (m : List ℤ) → program_budgeted κ s budget m ≡ budgeted (sizes s) (graph κ s) budget m
    program_budgeted_lem = Runs.program_budgeted_lem κ s fit

    pub program_replayed : (budget : ℕ) (m : List ℤ) → memory_validity (sizes s) m ≡ Ok tt
        → Replayed (sizes s) (graph κ s) budget (begun m) (program_budgeted κ s budget m)
    program_replayed = Runs.program_replayed κ s fit

  -- not well formed: a step leaves the configuration as it was, and there is no run
  module _ (x : Refusal) (refused : validity s ≡ Err x) where
    pub refused_outcome : (c : Configuration) (e : ℕ) → program_outcome κ s c e ≡ Refuses x
    refused_outcome = Steps.refused_outcome κ s x refused

    pub refused_step : (c : Configuration) (e : ℕ) → program_step κ s c e ≡ c
    refused_step = Steps.refused_step κ s x refused

    pub refused_budgeted : (budget : ℕ) (m : List ℤ) → program_budgeted κ s budget m ≡ ends (Ends x) (begun m)
    refused_budgeted = Runs.refused_budgeted κ s x refused

  -- in either case a memory has as many cells as before
  pub program_step_length : (c : Configuration) (e : ℕ) → length (program_step κ s c e).memory ≡ length c.memory
  program_step_length = Steps.program_step_length κ s

  pub program_budgeted_length : (budget : ℕ) (m : List ℤ) → length (program_budgeted κ s budget m).final.memory ≡ length m
  program_budgeted_length = Runs.program_budgeted_length κ s

-- (order 8) on the deterministic graph: "at most one arrow is defined at any node in any memory"
pub at_most_one : (s : List ℕ) → validity s ≡ Ok tt → (node : ℕ) (m : List ℤ) (e f : ℕ) → T (leaves (graph Deterministic s) e node) → T (leaves (graph Deterministic s) f node)
    → T (is_defined (edge_effect (sizes s) (graph Deterministic s) m e)) → T (is_defined (edge_effect (sizes s) (graph Deterministic s) m f)) → e ≡ f
at_most_one = Alone.at_most_one

-- ---- The exit of a do

-- its truth, and the reason where it is undefined, are those of "¬b of every guard of the loop, joined by ∧ left to right"
pub exit_truth : (ns : List ℕ) (m : List ℤ) (c : Command) → truth_in ns m (done c) ≡ truth_in ns m (all_false (guards c))
exit_truth = Exit.exit_truth

-- ---- Rows of numbers

-- a reply is fixed by its row alone: of a step, and of a budgeted run
pub stepped_row : (r s : Stepped) → stepped_numbers r ≡ stepped_numbers s → r ≡ s
stepped_row = Readback.stepped_row

pub ended_row : (d e : Ended) → ended_numbers d ≡ ended_numbers e → d ≡ e
ended_row = Readback.ended_row

-- ---- A prepared graph

module _ {ns : List ℕ} {g : Graph} {code graph : List ℕ} (p : Prepared ns g code graph) where
  -- past the last edge there is none; an edge leaves the node that it comes from
  pub no_edge : (e node : ℕ) → get_or graph edge_count_place 0 ≤ e → false ≡ leaves g e node
  no_edge = Edges.no_edge p

  pub edge_leaves : (e node : ℕ) → e < get_or graph edge_count_place 0 → eqb (source_in graph e) node ≡ leaves g e node
  edge_leaves = Edges.edge_leaves p

  -- the first edge out of a node that passes a test, as following the links finds it; and that there is none
  module _ (node : ℕ) (q : ℕ → Bool) (e : ℕ) (at : Following graph node (λ k. q k ≡ false) e) where
    pub first_leaving : e < get_or graph edge_count_place 0 → q e ≡ true → first_such (length g.edges) (λ k. leaves g k node && q k) ≡ Some e
    first_leaving = Edges.first_leaving p node q e at

    pub none_leaving : get_or graph edge_count_place 0 ≤ e → first_such (length g.edges) (λ k. leaves g k node && q k) ≡ None
    none_leaving = Edges.none_leaving p node q e at
