-- `lines::put_sign`: a number after a space.
use Rattle.listing.specs.Text.{ascii}
use Rattle.listing.proofs.lines.put_sign.Goals as goal

pub put_labelled-requires : goal.put_labelled-requires
unfolding ascii
put_labelled-requires c = c.requires

pub returns : goal.returns
unfolding ascii
returns c = c.put_labelled.ensures
