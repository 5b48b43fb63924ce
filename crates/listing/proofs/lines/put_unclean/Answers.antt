-- `lines::put_unclean`: the record, then the edge.
use mathlib.Core.List.{List}
use Prim.Native.Nat.{ℕ}
use Rattle.listing.specs.Text.{ascii, labelled, mark_text}
use Rattle.listing.proofs.Placing.{room_first, room_then, put_then}
use Rattle.listing.proofs.lines.put_unclean.Goals as goal
use Rattle.listing.proofs.lines.put_unclean.Goals.{Start}

-- the parts
abbrev number : (s : Start) → List ℕ
number s = labelled (ascii "index record ") s.args.k

abbrev edge : (s : Start) → List ℕ
edge s = labelled (ascii " arrow ") s.args.edge

pub put_labelled-after_number-requires : goal.put_labelled-after_number-requires
unfolding ascii mark_text
put_labelled-after_number-requires c = room_first (number (goal.at.put_labelled-after_number-requires c).Start) (edge (goal.at.put_labelled-after_number-requires c).Start) c.requires

pub put_labelled-requires : goal.put_labelled-requires
unfolding ascii mark_text
put_labelled-requires c =
    room_then (number (goal.at.put_labelled-requires c).Start) (edge (goal.at.put_labelled-requires c).Start) c.requires c.put_labelled-after_number.ensures

pub returns : goal.returns
unfolding ascii mark_text
returns c =
    put_then (number (goal.at.returns c).Start) (edge (goal.at.returns c).Start) c.requires c.put_labelled-after_number.ensures c.put_labelled.ensures
