-- `lines::put_record`: number, node, signs and the line's end, one after the other.
use mathlib.Core.List.{List, flat_map}
use Prim.Native.Nat.{ℕ}
use Rattle.listing.specs.Text.{ascii, decimal, labelled, line_text}
use Rattle.listing.proofs.Placing.{three_first, three_second, three_third, four_three, four_fourth, put_four}
use Rattle.listing.proofs.lines.put_record.Goals as goal
use Rattle.listing.proofs.lines.put_record.Goals.{Start}

-- the parts
abbrev number : (s : Start) → List ℕ
number s = decimal s.args.k

abbrev node : (s : Start) → List ℕ
node s = labelled (ascii " ") s.args.node

abbrev signs : (s : Start) → List ℕ
signs s = flat_map (labelled (ascii " ")) s.args.signs.now

abbrev end : List ℕ
end = ascii "\n"

pub put_number-after_number-requires : goal.put_number-after_number-requires
unfolding line_text
put_number-after_number-requires c = three_first (number (goal.at.put_number-after_number-requires c).Start) (node (goal.at.put_number-after_number-requires c).Start) (signs (goal.at.put_number-after_number-requires c).Start) (four_three (number (goal.at.put_number-after_number-requires c).Start) (node (goal.at.put_number-after_number-requires c).Start) (signs (goal.at.put_number-after_number-requires c).Start) end c.requires)

pub put_labelled-after_node-requires : goal.put_labelled-after_node-requires
unfolding ascii line_text
put_labelled-after_node-requires c =
    three_second (number (goal.at.put_labelled-after_node-requires c).Start) (node (goal.at.put_labelled-after_node-requires c).Start) (signs (goal.at.put_labelled-after_node-requires c).Start) (four_three (number (goal.at.put_labelled-after_node-requires c).Start) (node (goal.at.put_labelled-after_node-requires c).Start) (signs (goal.at.put_labelled-after_node-requires c).Start) end c.requires) c.put_number-after_number.ensures

pub put_signs-after_signs-requires : goal.put_signs-after_signs-requires
unfolding ascii line_text
put_signs-after_signs-requires c =
    three_third (number (goal.at.put_signs-after_signs-requires c).Start) (node (goal.at.put_signs-after_signs-requires c).Start) (signs (goal.at.put_signs-after_signs-requires c).Start) (four_three (number (goal.at.put_signs-after_signs-requires c).Start) (node (goal.at.put_signs-after_signs-requires c).Start) (signs (goal.at.put_signs-after_signs-requires c).Start) end c.requires) c.put_number-after_number.ensures c.put_labelled-after_node.ensures

pub put-requires : goal.put-requires
unfolding ascii line_text
put-requires c =
    four_fourth (number (goal.at.put-requires c).Start) (node (goal.at.put-requires c).Start) (signs (goal.at.put-requires c).Start) end c.requires c.put_number-after_number.ensures c.put_labelled-after_node.ensures c.put_signs-after_signs.ensures

pub returns : goal.returns
unfolding ascii line_text
returns c =
    put_four (number (goal.at.returns c).Start) (node (goal.at.returns c).Start) (signs (goal.at.returns c).Start) end c.requires c.put_number-after_number.ensures c.put_labelled-after_node.ensures c.put_signs-after_signs.ensures c.put.ensures
