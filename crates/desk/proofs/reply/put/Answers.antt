-- `reply::put`: the head, then the numbers behind it.
use mathlib.Core.List.{map}
use lib.IntN.{pos}
use lib.ListN.{length-map}
use Rattle.desk.proofs.Replies.{put_behind}
use Rattle.desk.proofs.reply.put.Goals as goal

pub returns : goal.returns
returns c = put_behind c.args.head (map pos c.args.numbers.now) _ (rw length-map c.requires) c.put_head-status.type_inv c.put_head-status.ensures c.put_numbers.ensures
