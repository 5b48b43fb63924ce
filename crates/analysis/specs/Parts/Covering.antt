-- The third term of any graph g whose names have the sizes ns: what that of a program file is proved from. No public contract cites these.
use Rattle.std.specs.Prelude.{◌≡◌, ℕ, not, T, List, ℤ}
use Rattle.signs.specs.Lists.{all_of}
use Rattle.program.specs.Graph.{Graph}
use Rattle.semantics.specs.Budget.{budgeted}
use Rattle.semantics.specs.Parts.Replaying.{replay, outcomes}
use Rattle.semantics.specs.Step.{begun}
use Rattle.analysis.specs.Abstraction.{abstract_memory}
use Rattle.analysis.specs.Records.{has_initial}
use Rattle.analysis.specs.Soundness.{meets_in_call, has_configuration, no_edge_meets}
use Rattle.analysis.specs.declared.Mark.{Mark}
use Rattle.analysis.specs.declared.Mark.TheVariants.{Clean}

-- what holds of a memory, a list of step calls over the graph and a budget
pub record KeptOn (ns : List ℕ) (g : Graph) (solution : List ℕ) (mark : Mark) (m : List ℤ) (calls : List ℕ) (budget : ℕ) : Type 0 where
  pub reached : T (has_configuration ns solution (replay ns g (begun m) calls))
  pub run_reached : T (has_configuration ns solution (budgeted ns g budget m).final)
  pub no_call_meets : mark ≡ Clean → T (all_of (λ o. not (meets_in_call o)) (outcomes ns g (begun m) calls))
  pub replay_no_edge_meets : mark ≡ Clean → T (no_edge_meets ns g (replay ns g (begun m) calls))
  pub run_no_edge_meets : mark ≡ Clean → T (no_edge_meets ns g (budgeted ns g budget m).final)

unfoldable pub SoundOn : List ℕ → Graph → List ℕ → List ℕ → Mark → Type 0
SoundOn ns g initial solution mark =
    (m : List ℤ) →
    T (has_initial ns initial (abstract_memory ns m)) →
    (calls : List ℕ) (budget : ℕ) →
    KeptOn ns g solution mark m calls budget
