-- `Machine::selected`: the lower edges' guards in turn, and the edge's own last.
use mathlib.Core.Path.{◌≡◌}
use native.Mathlib.Numerals.{add-one}
use native.Mathlib.Omega.{arith}
use Rattle.program.specs.Parts.Prepared.{guards_in}
use Rattle.semantics.specs.Parts.Selecting.{guard_at}
use Rattle.semantics.proofs.Selections.{none_fails, more_fail, selected_holds}
use Rattle.semantics.proofs.evaluator.Machine.selected.Goals as goal

pub loop-k-init : goal.loop-k-init
unfolding guards_in
loop-k-init c = none_fails _

pub loop-k-preserved : goal.loop-k-preserved
unfolding guards_in guard_at
loop-k-preserved c =
    rw add-one (more_fail c.loop-k.invariant c.and_fails-v.ensures)

pub returns : goal.returns
returns c =
    let end : c.loop-k.k ≡ c.args.e = omega arith in
    rw (← c.edge_source-node.ensures) (selected_holds c.truth-v.ensures (rw end at c.loop-k.invariant) c.own-last.ensures c.both.ensures)
