-- What the functions of the budgeted run ask of each other. No public contract cites these.
use Rattle.std.specs.Prelude.{◌≡◌, cond, List, ℕ, ◌<◌, eqb, ltb, ℤ, None, Some}
use Rattle.program.specs.Graph.{Graph}
use Rattle.semantics.specs.Action.{after}
use Rattle.semantics.specs.Budget.{lowest_defined, Finish, run_from}
use Rattle.semantics.specs.Parts.Cells.{NumbersIn}
use Rattle.semantics.specs.Step.{begun, edge_effect}
use Rattle.semantics.specs.declared.Ended.{Ended}
use Rattle.semantics.specs.declared.Ending.{Ending}
use Rattle.semantics.specs.declared.Ending.TheVariants.{Arrived, Spent}
use Rattle.semantics.specs.declared.Run.{Run}

-- taking the lowest defined edge out of a node: its number and the memory after it; 255 and the memory as it was, where there is none
pub record Lowest (ns : List ℕ) (g : Graph) (node : ℕ) (m : List ℤ) (e : ℕ) (m' : List ℤ) : Type 0 where
  pub lowest : lowest_defined ns g node m ≡ cond (ltb e 255) (Some e) None
  pub memory : m' ≡ cond (ltb e 255) (after m (edge_effect ns g m e)) m

-- how a run ends that goes no further: at node 1, or else with its budget used up
unfoldable pub ending_at : ℕ → Ending
ending_at node = cond (eqb node 1) Arrived Spent

-- a run of `budget` edges from a memory is the same as one of the edges left from here, at one of 129 nodes, with the program's numbers behind the memory
pub record Reached (ns : List ℕ) (g : Graph) (code : List ℕ) (budget left : ℕ) (start : List ℤ) (run : Run) (m : List ℤ) : Type 0 where
  pub same : run_from budget ns g (begun start) ≡ run_from left ns g (record { run = run; memory = m })
  pub inside : run.node < 129
  pub numbers : NumbersIn code m

-- a reply and a memory that say where a run ended
pub record EndsAs (r : Finish) (m : List ℤ) (x : Ended) : Type 0 where
  pub reply : x ≡ record { run = r.final.run; ending = r.ending }
  pub memory : m ≡ r.final.memory
