-- The step and a list of step calls over a graph g whose names have the sizes ns. No public contract cites these.
use Rattle.std.specs.Prelude.{ℕ, List, [], ◌∷◌}
use Rattle.program.specs.Graph.{Graph}
use Rattle.semantics.specs.Step.{Configuration, outcome, next}
use Rattle.semantics.specs.declared.Outcome.{Outcome}

-- the configuration after one call
unfoldable pub step : List ℕ → Graph → Configuration → ℕ → Configuration
step ns g c e = next ns g c e (outcome ns g c e)

-- run and memory after the calls, one for each edge number of a list
unfoldable pub replay : List ℕ → Graph → Configuration → List ℕ → Configuration
replay ns g c [] = c
replay ns g c (e ∷ es) = replay ns g (step ns g c e) es

-- what the calls answer, in order
unfoldable pub outcomes : List ℕ → Graph → Configuration → List ℕ → List Outcome
outcomes ns g c [] = []
outcomes ns g c (e ∷ es) = outcome ns g c e ∷ outcomes ns g (step ns g c e) es
