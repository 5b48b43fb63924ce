-- `judging::first_spot`: record by record, up to the first at which the query finds something.
use Rattle.std.proofs.Common.{ℕ, List}
use Rattle.program.specs.Graph.{Graph}
use Rattle.analysis.specs.Parts.Judging.{Searched}
use Rattle.analysis.proofs.Searching.{NowhereTo}
use Rattle.analysis.proofs.judging.first_spot.Given as goal

abbrev pub invariant-loop-k : goal.invariant-loop-k
invariant-loop-k l = (ns : List ℕ) (g : Graph) → Searched ns g l.code l.graph l.query l.solution l.index → NowhereTo ns g l.solution l.query l.k
