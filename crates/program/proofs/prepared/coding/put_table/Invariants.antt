-- `program::prepared::coding::put_table` meets its contract.
use Rattle.program.specs.Parts.Preparing.{Copied}
use Rattle.program.proofs.prepared.coding.put_table.Given as goal

abbrev pub invariant-loop-n : goal.invariant-loop-n
invariant-loop-n l = Copied l.program l.start l.place l.n l.initial.out l.out
