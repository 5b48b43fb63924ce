-- `lines::put_mark`: by the mark.
use Rattle.listing.specs.Text.{ascii, mark_text}
use Rattle.listing.proofs.lines.put_mark.Goals as goal

pub put-requires : goal.put-requires
unfolding ascii mark_text
put-requires c =
    rw c.in-Clean.is at c.requires

pub put_unclean-requires : goal.put_unclean-requires
put_unclean-requires c =
    rw c.in-Unclean.is at c.requires

pub returns-in-Clean : goal.returns-in-Clean
unfolding ascii mark_text
returns-in-Clean c =
    rw c.in-Clean.is c.put.ensures

pub returns-in-Unclean : goal.returns-in-Unclean
returns-in-Unclean c =
    rw c.in-Unclean.is c.put_unclean.ensures
