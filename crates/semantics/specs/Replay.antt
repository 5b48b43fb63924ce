-- A list of step calls of a program file, on its graph by a construction κ (document 01, "The third term is one statement about a whole list of step calls"). "All calls of a list take the
-- same script; the list may be empty, and a call may name any arrow number."
use Rattle.std.specs.Prelude.{ℕ, List, [], ◌∷◌}
use Rattle.program.specs.declared.Construction.{Construction}
use Rattle.semantics.specs.Step.{Configuration, program_outcome, program_step}
use Rattle.semantics.specs.declared.Outcome.{Outcome}

-- run and memory after the calls, one for each edge number of a list: "the next goes on from there"
unfoldable pub program_replay : Construction → List ℕ → Configuration → List ℕ → Configuration
program_replay κ s c [] = c
program_replay κ s c (e ∷ es) = program_replay κ s (program_step κ s c e) es

-- what the calls answer, in order
unfoldable pub program_outcomes : Construction → List ℕ → Configuration → List ℕ → List Outcome
program_outcomes κ s c [] = []
program_outcomes κ s c (e ∷ es) = program_outcome κ s c e ∷ program_outcomes κ s (program_step κ s c e) es
