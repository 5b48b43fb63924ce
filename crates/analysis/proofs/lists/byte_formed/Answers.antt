-- `lists::byte_formed`: all of its tests are made.
use Rattle.analysis.proofs.Laid.{formed_by_tests}
use Rattle.analysis.proofs.lists.byte_formed.Goals as goal

pub returns : goal.returns
returns c = formed_by_tests _ _
