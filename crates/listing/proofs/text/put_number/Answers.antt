-- The digits of `digits::decimal`, put.
use mathlib.Core.Path.{◌≡◌, ◌∙◌}
use Rattle.std.proofs.Common.{take}
use Rattle.listing.specs.Text.{decimal}
use Rattle.listing.proofs.Decimals.{decimal_told}
use Rattle.listing.proofs.text.put_number.Goals as goal
use Rattle.listing.proofs.text.put_number.Goals.{After-decimal-count}

told : (c : After-decimal-count) → take c.decimal-count.result c.decimal-count.new.out ≡ decimal c.args.n
told c = c.decimal-count.ensures.digits ∙ decimal_told c.args.n c.decimal-count.result c.ranges.n.fits c.decimal-count.ensures.len

pub put-requires : goal.put-requires
put-requires c = rw (told (goal.at.put-requires c).After-decimal-count) c.requires

pub returns : goal.returns
returns c = rw (told (goal.at.returns c).After-decimal-count) at c.put.ensures
