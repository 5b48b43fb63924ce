-- `judging::mark_formed`: no record is indexed, since none is sought.
use Rattle.std.proofs.Common.{◌≡◌, Bool, true, false, ap}
use mathlib.Core.Bool.{false≢true}
use Rattle.analysis.specs.declared.judging.Query.{Query}
use Rattle.analysis.specs.declared.judging.Query.TheVariants.{MissingResult, NegativeIndex}
use Rattle.analysis.proofs.judging.mark_formed.Goals as goal

pub mark_of-requires : goal.mark_of-requires
mark_of-requires c =
    record { ready = c.requires.0; whole = c.requires.1; count = 0; indexed = c.put_factors.ensures _ _ }

-- the index mark is no question of records
other : NegativeIndex ≡ MissingResult → false ≡ true
other e = ap missing e
  where
    missing : Query → Bool
    missing MissingResult = true
    missing NegativeIndex = false

pub returns : goal.returns
returns c ns g p fit = c.mark_of.ensures ns g (record { prepared = p; formed = fit; filled = λ q. absurd (false≢true (other q)) })
