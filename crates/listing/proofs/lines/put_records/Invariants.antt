-- `lines::put_records`: the records passed are put.
use mathlib.Core.List.{flat_map}
use Rattle.signs.specs.Lists.{tabulate}
use Rattle.listing.specs.Parts.Writing.{Put, line_at}
use Rattle.listing.specs.Text.{line_text}
use Rattle.listing.proofs.lines.put_records.Given as goal

abbrev pub invariant-loop-k : goal.invariant-loop-k
invariant-loop-k l = Put l.at (flat_map line_text (tabulate l.k (line_at l.names l.list))) l.initial.out l.out l.after
