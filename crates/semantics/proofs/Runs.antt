-- A budgeted run is a list of step calls that are all taken; how it ends; and it leaves a memory as long as it was.
use Rattle.program.specs.Asking.{Validity}
use Rattle.std.specs.Prelude.{Err, Ok, None, Option, Some}
use mathlib.Core.Path.{◌≡◌, refl, ap, ◌∙◌}
use mathlib.Core.Bool.{Bool, true, false, cond, ◌&&◌}
use mathlib.Core.Logic.{◌≢◌}
use mathlib.Core.List.{List, [], ◌∷◌}
use Prim.Native.Nat.{ℕ, zero, suc, ◌+◌, ◌≤◌, ◌<◌, min}
use native.Mathlib.Omega.{arith}
use lib.Dec.{T, eqb}
use lib.IntN.{ℤ}
use lib.ListN.{length, replicate}
use borrow.Author.Tests.{eqb-true, eqb-false}
use mir.Facts.{and_yes}
use Rattle.program.specs.File.{sizes, cell_count}
use Rattle.program.specs.Graph.{Graph, graph, edges, edge_count, node_count, edge_at}
use Rattle.program.specs.Questions.{validity}
use Rattle.program.specs.declared.Construction.{Construction}
use Rattle.program.specs.declared.Refusal.{Refusal}
use Rattle.program.proofs.Laws.{such_first, such_none, two_nodes, edge_inside}
use Rattle.program.proofs.Tests.{passed}
use Rattle.semantics.specs.Action.{is_defined}
use Rattle.semantics.specs.Budget.{lowest_defined, Finish, ends, goes_on, run_from, ends_unless_refused, budgeted, program_budgeted}
use Rattle.semantics.specs.Parts.Replaying.{replay, outcomes, step}
use Rattle.semantics.specs.Step.{Configuration, fresh, begun, leaves, edge_effect, memory_validity, outcome, along}
use Rattle.semantics.specs.declared.Ending.{Ending}
use Rattle.semantics.specs.declared.Ending.TheVariants.{Arrived, Spent, Stuck, Refused as Refuses}
use Rattle.semantics.specs.declared.Outcome.TheVariants.{Taken}
use Rattle.semantics.proofs.Steps.{Takable, memory_fit, leaves_below, takable_taken, taken_step, along_length}

-- a result r, reached from c within a budget, as a list of calls that are all taken
pub record Replayed (ns : List ℕ) (g : Graph) (budget : ℕ) (c : Configuration) (r : Finish) : Type 0 where
  pub calls : List ℕ
  pub few : length calls ≤ budget
  pub reached : r.final ≡ replay ns g c calls
  pub all_taken : outcomes ns g c calls ≡ replicate (length calls) Taken
  pub all_spent : r.ending ≡ Spent → length calls ≡ budget

-- how a result r ends: at node 1 or not, and stuck only where no edge out of the node is defined
pub record Stops (ns : List ℕ) (g : Graph) (r : Finish) : Type 0 where
  pub arrived : r.ending ≡ Arrived → r.final.run.node ≡ 1
  pub at_end : r.final.run.node ≡ 1 → r.ending ≡ Arrived
  pub stuck : r.ending ≡ Stuck → (e : ℕ) → T (leaves g e r.final.run.node) → is_defined (edge_effect ns g r.final.memory e) ≡ false

-- of two tests of which the first passes, the second fails where not both pass
second_fails : (a b : Bool) → T a → (a && b) ≡ false → b ≡ false
second_fails true b t p = p
second_fails false b t p = absurd t

module _ (ns : List ℕ) (g : Graph) where
  -- the lowest defined edge leaves the node and is defined, and where there is none no edge out of the node is
  pub lowest_found : (node : ℕ) (m : List ℤ) (e : ℕ) → lowest_defined ns g node m ≡ Some e → T (leaves g e node) × T (is_defined (edge_effect ns g m e))
  unfolding lowest_defined
  lowest_found node m e p = and_yes (leaves g e node) (is_defined (edge_effect ns g m e)) (passed (such_first (length g.edges) _ e p).passes)

  pub lowest_none : (node : ℕ) (m : List ℤ) → lowest_defined ns g node m ≡ None → (e : ℕ) → T (leaves g e node) → is_defined (edge_effect ns g m e) ≡ false
  unfolding lowest_defined
  lowest_none node m p e l = second_fails (leaves g e node) _ l (such_none (length g.edges) _ p e (leaves_below g e node l))

  -- the count of calls that are all taken
  pub replay_count : (c : Configuration) (es : List ℕ) → c.run.count ≤ 65535 → outcomes ns g c es ≡ replicate (length es) Taken
      → (replay ns g c es).run.count ≡ min (c.run.count + length es) 65535
  unfolding replay outcomes along
  replay_count c [] small p = omega arith
  replay_count c (e ∷ es) small p =
      let now : outcome ns g c e ≡ Taken = cc in
      let later : outcomes ns g (step ns g c e) es ≡ replicate (length es) Taken = cc in
      let moved = ap (λ (d : Configuration). d.run.count) (taken_step ns g c e now) in
      omega (arith, replay_count (step ns g c e) es (omega arith) later)

  -- what holds where a run starts and is kept by each edge taken gives what holds where it ends
  module _ (I : Configuration → Type 0) (P : Finish → Type 0)
      (keeps : (c : Configuration) (e : ℕ) → lowest_defined ns g c.run.node c.memory ≡ Some e → I c → I (along ns g c e))
      (arrives : (c : Configuration) → I c → c.run.node ≡ 1 → P (ends Arrived c))
      (spends : (c : Configuration) → I c → c.run.node ≢ 1 → P (ends Spent c))
      (sticks : (c : Configuration) → I c → c.run.node ≢ 1 → lowest_defined ns g c.run.node c.memory ≡ None → P (ends Stuck c)) where
    either : (c : Configuration) (r : Finish) → I c → (c.run.node ≢ 1 → P r) → (b : Bool) → eqb c.run.node 1 ≡ b → P (cond b (ends Arrived c) r)
    either c r i other true p = arrives c i (eqb-true c.run.node 1 p)
    either c r i other false p = other (eqb-false c.run.node 1 p)

    pub run_ends : (budget : ℕ) (c : Configuration) → I c → P (run_from budget ns g c)
    unfolding run_from goes_on
    run_ends zero c i = either c (ends Spent c) i (spends c i) (eqb c.run.node 1) refl
    run_ends (suc budget) c i =
        either c _ i (λ d. further (λ e. run_ends budget (along ns g c e)) d (lowest_defined ns g c.run.node c.memory) refl) (eqb c.run.node 1) refl
      where
        further : ((e : ℕ) → I (along ns g c e) → P (run_from budget ns g (along ns g c e))) → c.run.node ≢ 1
            → (x : Option ℕ) → lowest_defined ns g c.run.node c.memory ≡ x → P (goes_on (λ e. run_from budget ns g (along ns g c e)) c x)
        further go d (Some e) p = go e (keeps c e p i)
        further go d None p = sticks c i d p

  -- how a run ends
  pub run_stops : (budget : ℕ) (c : Configuration) → Stops ns g (run_from budget ns g c)
  run_stops budget c =
      run_ends (λ (d : Configuration). Unit {0}) (Stops ns g) (λ d e p i. tt)
      (λ d i h. record { arrived = λ p. h; at_end = λ p. refl; stuck = λ p e l. cc })
      (λ d i h. record { arrived = λ p. cc; at_end = λ p. absurd (h p); stuck = λ p e l. cc })
      (λ d i h none. record { arrived = λ p. cc; at_end = λ p. absurd (h p); stuck = λ p. lowest_none d.run.node d.memory none })
      budget c tt

  pub run_length : (budget : ℕ) (c : Configuration) → length (run_from budget ns g c).final.memory ≡ length c.memory
  run_length budget c =
      run_ends (λ (d : Configuration). length d.memory ≡ length c.memory) (λ (r : Finish). length r.final.memory ≡ length c.memory)
      (λ d e p i. along_length ns g d e ∙ i) (λ d i h. i) (λ d i h. i) (λ d i h none. i)
      budget c refl

  -- a run that does not move
  stays : (budget : ℕ) (c : Configuration) (x : Ending) → (x ≡ Spent → 0 ≡ budget) → Replayed ns g budget c (ends x c)
  unfolding replay outcomes
  stays budget c x spent = record { calls = []; few = omega arith; reached = refl; all_taken = refl; all_spent = spent }

  -- a run along an edge that can be taken, and what follows
  moves : (budget : ℕ) (c : Configuration) (e : ℕ) (r : Finish) → Takable ns g c e → Replayed ns g budget (along ns g c e) r → Replayed ns g (suc budget) c r
  unfolding replay outcomes
  moves budget c e r can p =
      let taken = takable_taken ns g c e can in
      record {
        calls = e ∷ p.calls;
        few = omega (arith, p.few);
        reached = rw (taken_step ns g c e taken) p.reached;
        all_taken = rw (taken_step ns g c e taken, taken) (ap (◌∷◌ Taken) p.all_taken);
        all_spent = λ q. ap suc (p.all_spent q);
      }

  -- the budgeted run: a run where question 12 is answered yes, and none where it is refused
  module _ (budget : ℕ) (m : List ℤ) where
    pub budgeted_run : memory_validity ns m ≡ Ok tt → budgeted ns g budget m ≡ run_from budget ns g (begun m)
    unfolding budgeted ends_unless_refused
    budgeted_run fit = rw fit

    pub refused_run : (x : Refusal) → memory_validity ns m ≡ Err x → budgeted ns g budget m ≡ ends (Refuses x) (begun m)
    unfolding budgeted ends_unless_refused
    refused_run x p = rw p

    pub budgeted_length : length (budgeted ns g budget m).final.memory ≡ length m
    budgeted_length = by (memory_validity ns m) refl
      where
        by : (v : Validity) → memory_validity ns m ≡ v → length (budgeted ns g budget m).final.memory ≡ length m
        by (Ok _) p = rw (budgeted_run p) (run_length budget (begun m))
        by (Err x) p = rw (refused_run x p)

    pub budgeted_stops : Stops ns g (budgeted ns g budget m)
    unfolding fresh
    budgeted_stops = by (memory_validity ns m) refl
      where
        by : (v : Validity) → memory_validity ns m ≡ v → Stops ns g (budgeted ns g budget m)
        by (Ok _) p = rw (budgeted_run p) (run_stops budget (begun m))
        by (Err x) p =
            rw (refused_run x p)
            (record { arrived = λ q. cc; at_end = λ q. absurd (omega arith); stuck = λ q e l. cc })

  -- in a graph whose edges enter its own nodes
  module _ (inside : (e : ℕ) → e < length g.edges → (edge_at g e).target < g.nodes) where
    pub run_replayed : (budget : ℕ) (c : Configuration) → length c.memory ≡ cell_count ns → c.run.node < g.nodes → Replayed ns g budget c (run_from budget ns g c)
    unfolding run_from goes_on along
    run_replayed zero c room here = by (eqb c.run.node 1)
      where
        by : (b : Bool) → Replayed ns g 0 c (cond b (ends Arrived c) (ends Spent c))
        by true = stays 0 c Arrived (λ p. refl)
        by false = stays 0 c Spent (λ p. refl)
    run_replayed (suc budget) c room here =
        by (λ e. run_replayed budget (along ns g c e)) (eqb c.run.node 1) (lowest_defined ns g c.run.node c.memory) refl
      where
        by : ((e : ℕ) → length (along ns g c e).memory ≡ cell_count ns → (along ns g c e).run.node < g.nodes → Replayed ns g budget (along ns g c e) (run_from budget ns g (along ns g c e)))
            → (b : Bool) (x : Option ℕ) → lowest_defined ns g c.run.node c.memory ≡ x
            → Replayed ns g (suc budget) c (cond b (ends Arrived c) (goes_on (λ e. run_from budget ns g (along ns g c e)) c x))
        by go true x p = stays (suc budget) c Arrived (λ q. cc)
        by go false None p = stays (suc budget) c Stuck (λ q. cc)
        by go false (Some e) p =
            let found = lowest_found c.run.node c.memory e p in
            moves budget c e (run_from budget ns g (along ns g c e))
            (record { room = room; node_inside = here; edge_leaves = found.0; edge_defined = found.1 })
            (go e (along_length ns g c e ∙ room) (inside e (leaves_below g e c.run.node found.0)))

    pub budgeted_replayed : (budget : ℕ) (m : List ℤ) → 0 < g.nodes → memory_validity ns m ≡ Ok tt → Replayed ns g budget (begun m) (budgeted ns g budget m)
    unfolding fresh
    budgeted_replayed budget m some fit = rw (budgeted_run budget m fit) (run_replayed budget (begun m) (memory_fit ns m fit) some)

-- the count of a run is the number of its calls, up to 65,535
module _ (ns : List ℕ) (g : Graph) (budget : ℕ) (r : Finish) where
  pub run_count : (c : Configuration) → c.run.count ≤ 65535 → (p : Replayed ns g budget c r) → r.final.run.count ≡ min (c.run.count + length p.calls) 65535
  run_count c small p = ap (λ (d : Configuration). d.run.count) p.reached ∙ replay_count ns g c p.calls small p.all_taken

  pub fresh_count : (m : List ℤ) → budget ≤ 65535 → (p : Replayed ns g budget (begun m) r) → r.final.run.count ≡ length p.calls
  unfolding fresh
  fresh_count m small p = omega (arith, p.few, run_count (begun m) (omega arith) p)

-- of a program file
module _ (κ : Construction) (s : List ℕ) where
  module _ (fit : validity s ≡ Ok tt) (budget : ℕ) (m : List ℤ) where
    pub program_budgeted_lem : program_budgeted κ s budget m ≡ budgeted (sizes s) (graph κ s) budget m
    unfolding program_budgeted ends_unless_refused
    program_budgeted_lem = rw fit

    pub program_replayed : memory_validity (sizes s) m ≡ Ok tt → Replayed (sizes s) (graph κ s) budget (begun m) (program_budgeted κ s budget m)
    unfolding edges edge_count node_count edge_at
    program_replayed room =
        rw program_budgeted_lem
        (budgeted_replayed (sizes s) (graph κ s) (λ e h. (edge_inside κ s e _ h).target_inside) budget m (omega (arith, two_nodes κ s)) room)

  pub refused_budgeted : (x : Refusal) → validity s ≡ Err x → (budget : ℕ) (m : List ℤ) → program_budgeted κ s budget m ≡ ends (Refuses x) (begun m)
  unfolding program_budgeted ends_unless_refused
  refused_budgeted x p budget m = rw p

  pub program_budgeted_length : (budget : ℕ) (m : List ℤ) → length (program_budgeted κ s budget m).final.memory ≡ length m
  program_budgeted_length budget m = by (validity s) refl
    where
      by : (v : Validity) → validity s ≡ v → length (program_budgeted κ s budget m).final.memory ≡ length m
      by (Ok _) p = rw (program_budgeted_lem p budget m) (budgeted_length (sizes s) (graph κ s) budget m)
      by (Err x) p = rw (refused_budgeted x p budget m)
