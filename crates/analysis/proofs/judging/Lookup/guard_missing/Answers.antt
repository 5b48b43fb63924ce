-- `Lookup::guard_missing`: the abstract memory as it is, where the guard may hold.
use Rattle.std.proofs.Common.{refl}
use Rattle.analysis.specs.Parts.Judging.{any_missing}
use Rattle.signs.specs.Lists.{any_of}
use Rattle.analysis.proofs.Searching.{own_missing}
use Rattle.analysis.proofs.judging.Lookup.guard_missing.Goals as goal

pub returns-then-holds : goal.returns-then-holds
returns-then-holds c ns g ρ e x y h =
    rw c.if-holds.true
    (own_missing x.prepared _ h _ refl y _ 0 c.edge_target-node.ensures (c.listed.ensures ns ρ e (rw (← e) (x.filled refl)) (rw (← e) y)))

pub returns : goal.returns
unfolding any_missing any_of
returns c ns g ρ e x y h = rw c.if-holds.false
