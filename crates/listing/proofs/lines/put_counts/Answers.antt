-- `lines::put_counts`: four parts, one after the other.
use mathlib.Core.List.{List}
use Prim.Native.Nat.{ℕ}
use Rattle.listing.specs.Text.{ascii, labelled, line_text}
use Rattle.listing.proofs.Placing.{three_first, three_second, three_third, four_three, four_fourth, put_four}
use Rattle.listing.proofs.lines.put_counts.Goals as goal
use Rattle.listing.proofs.lines.put_counts.Goals.{Start}

-- the parts
abbrev nodes : (s : Start) → List ℕ
nodes s = labelled (ascii "nodes ") s.args.nodes

abbrev edges : (s : Start) → List ℕ
edges s = labelled (ascii " arrows ") s.args.edges

abbrev count : (s : Start) → List ℕ
count s = labelled (ascii " records ") s.args.count

abbrev end : List ℕ
end = ascii "\n"

pub put_labelled-after_nodes-requires : goal.put_labelled-after_nodes-requires
unfolding ascii line_text
put_labelled-after_nodes-requires c = three_first (nodes (goal.at.put_labelled-after_nodes-requires c).Start) (edges (goal.at.put_labelled-after_nodes-requires c).Start) (count (goal.at.put_labelled-after_nodes-requires c).Start) (four_three (nodes (goal.at.put_labelled-after_nodes-requires c).Start) (edges (goal.at.put_labelled-after_nodes-requires c).Start) (count (goal.at.put_labelled-after_nodes-requires c).Start) end c.requires)

pub put_labelled-after_edges-requires : goal.put_labelled-after_edges-requires
unfolding ascii line_text
put_labelled-after_edges-requires c =
    three_second (nodes (goal.at.put_labelled-after_edges-requires c).Start) (edges (goal.at.put_labelled-after_edges-requires c).Start) (count (goal.at.put_labelled-after_edges-requires c).Start) (four_three (nodes (goal.at.put_labelled-after_edges-requires c).Start) (edges (goal.at.put_labelled-after_edges-requires c).Start) (count (goal.at.put_labelled-after_edges-requires c).Start) end c.requires) c.put_labelled-after_nodes.ensures

pub put_labelled-after_count-requires : goal.put_labelled-after_count-requires
unfolding ascii line_text
put_labelled-after_count-requires c =
    three_third (nodes (goal.at.put_labelled-after_count-requires c).Start) (edges (goal.at.put_labelled-after_count-requires c).Start) (count (goal.at.put_labelled-after_count-requires c).Start) (four_three (nodes (goal.at.put_labelled-after_count-requires c).Start) (edges (goal.at.put_labelled-after_count-requires c).Start) (count (goal.at.put_labelled-after_count-requires c).Start) end c.requires) c.put_labelled-after_nodes.ensures c.put_labelled-after_edges.ensures

pub put-requires : goal.put-requires
unfolding ascii line_text
put-requires c =
    four_fourth (nodes (goal.at.put-requires c).Start) (edges (goal.at.put-requires c).Start) (count (goal.at.put-requires c).Start) end c.requires c.put_labelled-after_nodes.ensures c.put_labelled-after_edges.ensures c.put_labelled-after_count.ensures

pub returns : goal.returns
unfolding ascii line_text
returns c =
    put_four (nodes (goal.at.returns c).Start) (edges (goal.at.returns c).Start) (count (goal.at.returns c).Start) end c.requires c.put_labelled-after_nodes.ensures c.put_labelled-after_edges.ensures c.put_labelled-after_count.ensures c.put.ensures
