-- `put_counts_of`: the drawing's counts, put.
use mathlib.Core.Path.{◌≡◌, ap, sym, ◌∙◌}
use Prim.Native.Nat.{ℕ}
use lib.ListN.{replicate, length-replicate}
use Rattle.analysis.specs.Sheet.{counts_line}
use Rattle.listing.specs.Parts.Writing.{counts_of}
use Rattle.listing.specs.Text.{line_text}
use Rattle.listing.proofs.Placing.{room_as, put_as}
use Rattle.listing.proofs.Printed.{drawn_counts, never_undrawn}
use Rattle.listing.proofs.put_counts_of.Goals as goal
use Rattle.listing.proofs.put_counts_of.Goals.{In-Ok}

told : (c : In-Ok) → (counts_line c.in-Ok.d.nodes c.in-Ok.d.edges c.args.count ≡ counts_of c.args.program.now c.args.count)
told c = drawn_counts c.args.program.now (replicate 1785 0) c.args.count c.requires.0 (length-replicate {A = ℕ} 1785 0) (sym c.in-Ok.is ∙ c.draw_on.ensures.value.0)

pub put_counts-requires : goal.put_counts-requires
put_counts-requires c = room_as (ap line_text (told (goal.at.put_counts-requires c).In-Ok)) c.requires.1

pub returns-in-Ok : goal.returns-in-Ok
returns-in-Ok c = put_as (ap line_text (told (goal.at.returns-in-Ok c).In-Ok)) c.put_counts.ensures

pub returns-in-Err : goal.returns-in-Err
returns-in-Err c =
    never_undrawn c.args.program.now (replicate 1785 0) c.args.count c.requires.0 (length-replicate {A = ℕ} 1785 0) (sym c.in-Err.is ∙ c.draw_on.ensures.value.0)
