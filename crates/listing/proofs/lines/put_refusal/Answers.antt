-- `lines::put_refusal`: three parts, one after the other.
use mathlib.Core.List.{List}
use Prim.Native.Nat.{ℕ}
use Rattle.listing.specs.Text.{ascii, labelled, line_text}
use Rattle.listing.proofs.Placing.{three_first, three_second, three_third, put_three}
use Rattle.listing.proofs.lines.put_refusal.Goals as goal
use Rattle.listing.proofs.lines.put_refusal.Goals.{Start}

-- the parts
abbrev number : (s : Start) → List ℕ
number s = labelled (ascii "refused ") s.args.number

abbrev place : (s : Start) → List ℕ
place s = labelled (ascii " at ") s.args.offset

abbrev end : List ℕ
end = ascii "\n"

pub put_labelled-after_number-requires : goal.put_labelled-after_number-requires
unfolding ascii line_text
put_labelled-after_number-requires c = three_first (number (goal.at.put_labelled-after_number-requires c).Start) (place (goal.at.put_labelled-after_number-requires c).Start) end c.requires

pub put_labelled-after_place-requires : goal.put_labelled-after_place-requires
unfolding ascii line_text
put_labelled-after_place-requires c =
    three_second (number (goal.at.put_labelled-after_place-requires c).Start) (place (goal.at.put_labelled-after_place-requires c).Start) end c.requires c.put_labelled-after_number.ensures

pub put-requires : goal.put-requires
unfolding ascii line_text
put-requires c =
    three_third (number (goal.at.put-requires c).Start) (place (goal.at.put-requires c).Start) end c.requires c.put_labelled-after_number.ensures c.put_labelled-after_place.ensures

pub returns : goal.returns
unfolding ascii line_text
returns c =
    put_three (number (goal.at.returns c).Start) (place (goal.at.returns c).Start) end c.requires c.put_labelled-after_number.ensures c.put_labelled-after_place.ensures c.put.ensures
