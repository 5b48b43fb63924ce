-- `classes::put_figures`: the head, then the figures behind it.
use Rattle.figures.specs.Figures.{class_numbers, totals_numbers, fraction_numbers}
use Rattle.desk.proofs.Replies.{put_behind}
use Rattle.desk.proofs.Written.{part_put}
use Rattle.desk.proofs.classes.put_figures.Goals as goal

pub returns : goal.returns
unfolding class_numbers totals_numbers fraction_numbers
returns c =
    put_behind c.args.head (class_numbers c.args.f) _ c.requires c.put_head-status.type_inv c.put_head-status.ensures
    (rw (c.copy_from_slice.ensures.after, c.numbers.ensures) (part_put 3 (class_numbers c.args.f) c.put_head-status.new.reply))
