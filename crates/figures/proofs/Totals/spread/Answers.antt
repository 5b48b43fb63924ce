-- `Totals::spread`: the two products and their difference fit 64 bits, and are read back.
use mir.Syntax.{w64}
use mir.ValLaws.{to_z-of_z}
use Rattle.figures.proofs.Limits.{spread_read, spread_fits}
use Rattle.figures.proofs.Totals.spread.Goals as goal

pub overflow_sub-result : goal.overflow_sub-result
overflow_sub-result c = rw (spread_read _ c.requires) (spread_fits _ c.requires)

pub returns : goal.returns
returns c = rw (spread_read _ c.requires) (to_z-of_z w64 _ (spread_fits _ c.requires))
