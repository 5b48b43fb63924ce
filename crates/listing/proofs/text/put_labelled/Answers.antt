-- The text, then the number.
use Rattle.listing.specs.Text.{decimal, labelled}
use Rattle.listing.proofs.Placing.{room_first, room_then, put_then}
use Rattle.listing.proofs.text.put_labelled.Goals as goal

pub put-after-requires : goal.put-after-requires
unfolding labelled
put-after-requires c = room_first c.args.label.now (decimal c.args.n) c.requires

pub put_number-requires : goal.put_number-requires
unfolding labelled
put_number-requires c = room_then c.args.label.now (decimal c.args.n) c.requires c.put-after.ensures

pub returns : goal.returns
unfolding labelled
returns c = put_then c.args.label.now (decimal c.args.n) c.requires c.put-after.ensures c.put_number.ensures
