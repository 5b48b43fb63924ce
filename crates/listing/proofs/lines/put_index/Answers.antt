-- `lines::put_index`: the mark, then the line's end.
use Rattle.listing.specs.Text.{ascii, mark_text, line_text}
use Rattle.listing.proofs.Placing.{room_first, room_then, put_then}
use Rattle.listing.proofs.lines.put_index.Goals as goal

pub put_mark-after_mark-requires : goal.put_mark-after_mark-requires
unfolding line_text
put_mark-after_mark-requires c = room_first (mark_text c.args.mark) (ascii "\n") c.requires

pub put-requires : goal.put-requires
unfolding ascii line_text
put-requires c =
    room_then (mark_text c.args.mark) (ascii "\n") c.requires c.put_mark-after_mark.ensures

pub returns : goal.returns
unfolding ascii line_text
returns c =
    put_then (mark_text c.args.mark) (ascii "\n") c.requires c.put_mark-after_mark.ensures c.put.ensures
