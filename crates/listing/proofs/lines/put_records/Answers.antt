-- `lines::put_records`: the records passed are put.
use mathlib.Core.Path.{◌≡◌}
use native.Mathlib.Numerals.{add-one}
use native.Mathlib.Omega.{arith}
use Rattle.listing.specs.Parts.Writing.{line_at, records_text}
use Rattle.listing.specs.Text.{line_text}
use Rattle.listing.proofs.Placing.{put_none, room_next, put_next, put_length}
use Rattle.listing.proofs.lines.put_records.Goals as goal
use Rattle.listing.proofs.lines.put_records.Goals.{After-loop-k}

pub loop-k-init : goal.loop-k-init
loop-k-init c = put_none line_text (line_at c.args.names c.args.list.now) c.args.at c.args.out.now

pub put_record_of-after-requires : goal.put_record_of-after-requires
unfolding records_text
put_record_of-after-requires c =
    room_next line_text (line_at c.args.names c.args.list.now) {n = c.args.count} c.requires (omega arith) c.loop-k.invariant

pub loop-k-preserved : goal.loop-k-preserved
unfolding records_text
loop-k-preserved c =
    rw add-one (put_next line_text (line_at c.args.names c.args.list.now) {n = c.args.count} c.requires (omega arith) c.loop-k.invariant c.put_record_of-after.ensures)

-- all of them at the end
pub returns : goal.returns
unfolding records_text
returns c = let all : c.loop-k.k ≡ c.args.count = omega arith in rw all at c.loop-k.invariant

pub shape_of-out : goal.shape_of-out
shape_of-out c = put_length c.requires (returns (goal.at.shape_of-out c).After-loop-k)
