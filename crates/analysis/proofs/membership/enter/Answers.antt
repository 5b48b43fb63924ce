-- `membership::enter`: two stores.
use Rattle.std.proofs.Common.{add-one}
use Rattle.analysis.proofs.Chains.{indexed_more}
use Rattle.analysis.proofs.membership.enter.Goals as goal

pub returns : goal.returns
returns c width bytes x room e =
    let a = c.args in
    rw add-one (indexed_more width bytes a.n a.h a.index.now c.requires.0 c.requires.1 x room e)
