-- The turns of a budgeted run: as a loop takes them, one edge each.
use Rattle.std.specs.Prelude.{None, Some}
use mathlib.Core.Path.{◌≡◌, refl, sym, ap, subst, ◌∙◌}
use mathlib.Core.Logic.{◌≢◌, ◌⊎◌, inl, inr}
use mathlib.Core.Bool.{Bool, true, false, cond}
use mathlib.Core.List.{List}
use Prim.Native.Nat.{ℕ, zero, suc, ◌+◌, ◌-◌, ◌<◌, ◌≤◌, min}
use native.Mathlib.Omega.{arith}
use borrow.Author.Tests.{eq-eqb, ne_eqb, lt-ltb, le-ltb}
use lib.Dec.{eqb}
use lib.IntN.{ℤ}
use lib.ListN.{length}
use Rattle.program.specs.Graph.{Graph, edge_at}
use Rattle.program.specs.Parts.Prepared.{target_in, Prepared}
use Rattle.semantics.specs.Action.{after}
use Rattle.semantics.specs.Budget.{lowest_defined, Finish, ends, goes_on, run_from}
use Rattle.semantics.specs.Parts.Cells.{NumbersIn}
use Rattle.semantics.specs.Parts.Running.{Lowest, ending_at, Reached, EndsAs}
use Rattle.semantics.specs.Step.{Configuration, fresh, begun, edge_effect, along}
use Rattle.semantics.specs.declared.Ended.{Ended}
use Rattle.semantics.specs.declared.Ending.TheVariants.{Arrived, Spent, Stuck}
use Rattle.semantics.specs.declared.Run.{Run}
use Rattle.semantics.proofs.Edges.{numbers_kept}
use Rattle.semantics.proofs.Runs.{lowest_found}
use Rattle.semantics.proofs.Steps.{leaves_below}

module _ (ns : List ℕ) (g : Graph) (c : Configuration) where
  -- a run with edges left, not at node 1, goes along the lowest defined edge, or is stuck
  run_goes : (left : ℕ) → 0 < left → c.run.node ≢ 1
      → run_from left ns g c ≡ goes_on (λ e. run_from (left - 1) ns g (along ns g c e)) c (lowest_defined ns g c.run.node c.memory)
  unfolding run_from
  run_goes zero h d = absurd (omega arith)
  run_goes (suc left) h d =
      let same : suc left - 1 ≡ left = omega arith in
      rw (ne_eqb c.run.node 1 d, same)

  pub run_along : (left e : ℕ) → 0 < left → c.run.node ≢ 1 → lowest_defined ns g c.run.node c.memory ≡ Some e
      → run_from left ns g c ≡ run_from (left - 1) ns g (along ns g c e)
  unfolding goes_on
  run_along left e h d p = run_goes left h d ∙ rw p

  run_stuck : (left : ℕ) → 0 < left → c.run.node ≢ 1 → lowest_defined ns g c.run.node c.memory ≡ None → run_from left ns g c ≡ ends Stuck c
  unfolding goes_on
  run_stuck left h d p = run_goes left h d ∙ rw p

  -- one at node 1, or with no edge left, stops
  run_stops : (left : ℕ) → (c.run.node ≡ 1) ⊎ (left ≡ 0) → run_from left ns g c ≡ ends (ending_at c.run.node) c
  unfolding run_from ending_at
  run_stops zero p = by (eqb c.run.node 1)
    where
      by : (b : Bool) → cond b (ends Arrived c) (ends Spent c) ≡ ends (cond b Arrived Spent) c
      by true = refl
      by false = refl
  run_stops (suc left) (inl p) = rw (eq-eqb c.run.node 1 p)
  run_stops (suc left) (inr p) = absurd (omega arith)

-- a run ends where it is reached with a result of its own
ends_as : (ns : List ℕ) (g : Graph) (code : List ℕ) (budget left : ℕ) (start : List ℤ) (run : Run) (m : List ℤ) (x : Ended) → Reached ns g code budget left start run m
    → run_from left ns g (record { run = run; memory = m }) ≡ ends x.ending (record { run = x.run; memory = m }) → EndsAs (run_from budget ns g (begun start)) m x
ends_as ns g code budget left start run m x r p =
    let whole = r.same ∙ p in
    record {
      reply = ap (λ (y : Finish). record { run = y.final.run; ending = y.ending }) (sym whole);
      memory = ap (λ (y : Finish). y.final.memory) (sym whole);
    }

pub stops_as : (ns : List ℕ) (g : Graph) (code : List ℕ) (budget left : ℕ) (start : List ℤ) (run : Run) (m : List ℤ) (x : Ended) → Reached ns g code budget left start run m
    → (run.node ≡ 1) ⊎ (left ≡ 0) → x ≡ record { run = run; ending = ending_at run.node } → EndsAs (run_from budget ns g (begun start)) m x
stops_as ns g code budget left start run m x r p q = rw q (ends_as ns g code budget left start run m _ r (run_stops ns g (record { run = run; memory = m }) left p))

-- nothing is reached yet
pub reached_start : (ns : List ℕ) (g : Graph) (code : List ℕ) (budget : ℕ) (m : List ℤ) (run : Run) → run ≡ fresh → NumbersIn code m → Reached ns g code budget budget m run m
unfolding fresh
reached_start ns g code budget m run p n = record { same = rw p; inside = omega (arith, ap (λ (x : Run). x.node) p); numbers = n }

-- one edge more, as the code takes it
module _ {ns : List ℕ} {g : Graph} {code graph : List ℕ} (y : Prepared ns g code graph) where
  pub reached_more : (budget left : ℕ) (start : List ℤ) (run : Run) (m : List ℤ) → Reached ns g code budget left start run m → 0 < left → run.node ≢ 1
      → (e : ℕ) (m' : List ℤ) → Lowest ns g run.node m e m' → e < 255
      → (target : ℕ) → target ≡ target_in graph e → (run' : Run) → run' ≡ record { node = target; count = min (run.count + 1) 65535 }
      → Reached ns g code budget (left - 1) start run' m'
  unfolding along
  reached_more budget left start run m reached some far e m' lowest h target read run' p =
      record {
        same = reached.same ∙ run_along ns g (record { run = run; memory = m }) left e some far found ∙ ap (run_from (left - 1) ns g) moved;
        inside = omega (arith, to, ap (λ (a : Run). a.node) p, y.few_nodes, (y.edge e there).to);
        numbers = subst (NumbersIn code) to_memory (numbers_kept y e there m reached.numbers);
      }
    where
      found : lowest_defined ns g run.node m ≡ Some e
      found = lowest.lowest ∙ rw (lt-ltb e 255 h)

      there : e < length g.edges
      there = leaves_below g e run.node (lowest_found ns g run.node m e found).0

      to : target ≡ (edge_at g e).target
      to = read ∙ (y.edge e there).target

      to_run : record { node = (edge_at g e).target; count = min (run.count + 1) 65535 } ≡ run'
      to_run = rw (← to) (sym p)

      to_memory : after m (edge_effect ns g m e) ≡ m'
      to_memory = sym (lowest.memory ∙ rw (lt-ltb e 255 h))

      moved : along ns g (record { run = run; memory = m }) e ≡ record { run = run'; memory = m' }
      moved = λ i. record { run = to_run i; memory = to_memory i }

-- where none is defined the run is stuck, and the memory as it was
pub reached_stuck : (ns : List ℕ) (g : Graph) (code : List ℕ) (budget left : ℕ) (start : List ℤ) (run : Run) (m : List ℤ) → Reached ns g code budget left start run m → 0 < left → run.node ≢ 1
    → (e : ℕ) (m' : List ℤ) → Lowest ns g run.node m e m' → 255 ≤ e → EndsAs (run_from budget ns g (begun start)) m' (record { run = run; ending = Stuck })
reached_stuck ns g code budget left start run m reached some far e m' lowest h =
    let kept : m' ≡ m = lowest.memory ∙ rw (le-ltb e 255 h) in
    rw kept
    (ends_as ns g code budget left start run m _ reached (run_stuck ns g (record { run = run; memory = m }) left some far (lowest.lowest ∙ rw (le-ltb e 255 h))))
