-- `put_listing`: the counts, the records and the index line, one after the other.
use mathlib.Core.Path.{◌≡◌, ap, ◌∙◌}
use mathlib.Core.List.{List}
use Prim.Native.Nat.{ℕ, ◌+◌, ◌*◌}
use lib.ListN.{take}
use Rattle.program.specs.File.{name_count}
use Rattle.listing.specs.Parts.Writing.{records_text, counts_of, index_of, listing_text}
use Rattle.listing.specs.Text.{line_text}
use Rattle.listing.proofs.Placing.{three_first, three_second, three_third, put_three}
use Rattle.listing.proofs.put_listing.Goals as goal
use Rattle.listing.proofs.put_listing.Goals.{After-part-list, Start}

-- the parts
abbrev front : (s : Start) → List ℕ
front s = take ((2 + name_count s.args.program.now) * s.args.count) s.args.buffer.now

abbrev counts : (s : Start) → List ℕ
counts s = line_text (counts_of s.args.program.now s.args.count)

abbrev records : (s : Start) → List ℕ
records s = records_text (name_count s.args.program.now) s.args.buffer.now s.args.count

abbrev index : (s : Start) → List ℕ
index s = line_text (index_of s.args.program.now (front s))

-- the records' bytes
list_is : (c : After-part-list) → c.part-list.result.now ≡ take ((2 + name_count c.args.program.now) * c.args.count) c.args.buffer.now
list_is c =
    c.part-list.ensures
    ∙ ap (λ n. take n c.args.buffer.now) (c.bytes_of.ensures.0 ∙ ap (λ n. (2 + n) * c.args.count) c.name_count-names.ensures)

pub put_counts_of-after_counts-requires : goal.put_counts_of-after_counts-requires
unfolding listing_text
put_counts_of-after_counts-requires c = (c.requires.fit, three_first (counts (goal.at.put_counts_of-after_counts-requires c).Start) (records (goal.at.put_counts_of-after_counts-requires c).Start) (index (goal.at.put_counts_of-after_counts-requires c).Start) c.requires.room)

pub put_records-after_records-requires : goal.put_records-after_records-requires
unfolding listing_text
put_records-after_records-requires c =
    rw c.name_count-names.ensures (three_second (counts (goal.at.put_records-after_records-requires c).Start) (records (goal.at.put_records-after_records-requires c).Start) (index (goal.at.put_records-after_records-requires c).Start) c.requires.room c.put_counts_of-after_counts.ensures)

pub put_index_of-requires : goal.put_index_of-requires
unfolding listing_text
put_index_of-requires c =
    rw (list_is (goal.at.put_index_of-requires c).After-part-list)
    (c.requires.marked, three_third (counts (goal.at.put_index_of-requires c).Start) (records (goal.at.put_index_of-requires c).Start) (index (goal.at.put_index_of-requires c).Start) c.requires.room c.put_counts_of-after_counts.ensures (rw c.name_count-names.ensures at c.put_records-after_records.ensures))

pub returns : goal.returns
unfolding listing_text
returns c =
    put_three (counts (goal.at.returns c).Start) (records (goal.at.returns c).Start) (index (goal.at.returns c).Start) c.requires.room c.put_counts_of-after_counts.ensures (rw c.name_count-names.ensures at c.put_records-after_records.ensures)
    (rw (list_is (goal.at.returns c).After-part-list) at c.put_index_of.ensures)
