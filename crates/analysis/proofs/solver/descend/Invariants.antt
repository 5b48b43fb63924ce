-- `solver::descend`: the turns left from here are those of the definition.
use Rattle.std.proofs.Common.{◌≡◌, ℕ, ◌+◌, ◌-◌, List}
use Rattle.program.specs.Graph.{Graph}
use Rattle.program.specs.Parts.Prepared.{Prepared}
use Rattle.analysis.specs.Parts.Judging.{names_in}
use Rattle.analysis.specs.Solver.{descend}
use Rattle.analysis.specs.Parts.Solving.{found_in, Extended}
use Rattle.analysis.proofs.solver.descend.Given as goal

abbrev pub invariant-loop-k : goal.invariant-loop-k
invariant-loop-k l =
    Extended (2 + names_in l.machine.code.now) l.initial.buffer l.initial.progress l.buffer l.index l.progress
    × ((ns : List ℕ) (g : Graph) (room : ℕ) → Prepared ns g l.machine.code.now l.machine.graph.now → l.initial.progress.room ≡ room
    → descend room ns g room 0 (found_in (2 + names_in l.machine.code.now) l.initial.buffer l.initial.progress) ≡ descend (room - l.k) ns g room l.k (found_in (2 + names_in l.machine.code.now) l.buffer l.progress))

abbrev pub decreases-loop-k : goal.decreases-loop-k
decreases-loop-k l = l.initial.progress.room - l.k
