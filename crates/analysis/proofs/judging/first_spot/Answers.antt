-- `judging::first_spot`: record by record, up to the first at which the query finds something.
use Rattle.std.proofs.Common.{◌≡◌, ℕ, ◌+◌, List, sym, ap, ◌∙◌, add-one, arith}
use Rattle.program.specs.Graph.{Graph}
use Rattle.analysis.specs.Parts.Judging.{Searched}
use Rattle.analysis.specs.Records.{record_count, record_width}
use Rattle.analysis.proofs.Judged.{ready_names}
use Rattle.analysis.proofs.Searching.{nowhere_none, spot_here, spot_beyond, spot_nowhere}
use Rattle.analysis.proofs.judging.first_spot.Goals as goal
use Rattle.analysis.proofs.judging.first_spot.Goals.{After-record_count-k-end}

pub overflow_add-names : goal.overflow_add-names
overflow_add-names c = rw c.name_count-names.ensures (record { fits = omega (arith, (ready_names c.requires.ready).1) })

pub record_count-k-end-requires : goal.record_count-k-end-requires
record_count-k-end-requires c = (omega arith, rw c.name_count-names.ensures c.requires.whole)

pub loop-k-init : goal.loop-k-init
loop-k-init c ns g x = nowhere_none ns g _ _

pub spot_at-spot-requires : goal.spot_at-spot-requires
spot_at-spot-requires c =
    (c.requires, rw (← c.name_count-names.ensures, ← c.record_count-k-end.ensures) (omega arith))

-- the records that are counted
counted : (c : After-record_count-k-end) {ns : List ℕ} {g : Graph} → Searched ns g c.args.code.now c.args.graph.now c.args.query c.args.solution.now c.args.index.now
    → c.record_count-k-end.result ≡ record_count (record_width ns) c.args.solution.now
unfolding record_width
counted c x = c.record_count-k-end.ensures ∙ ap (λ (n : ℕ). record_count (2 + n) c.args.solution.now) (c.name_count-names.ensures ∙ x.prepared.coded.count)

pub returns-then-is_some : goal.returns-then-is_some
returns-then-is_some c ns g x =
    spot_here ns g _ _ c.loop-k.k (omega (arith, counted (goal.at.returns-then-is_some c).After-record_count-k-end x)) (c.loop-k.invariant ns g x) _ (c.spot_at-spot.ensures ns g x)
    (sym c.is_some.ensures ∙ c.if-is_some.true)

pub loop-k-preserved : goal.loop-k-preserved
loop-k-preserved c ns g x =
    rw add-one (spot_beyond ns g _ _ c.loop-k.k (c.loop-k.invariant ns g x) _ (c.spot_at-spot.ensures ns g x) (sym c.is_some.ensures ∙ c.if-is_some.false))

pub returns : goal.returns
returns c ns g x =
    spot_nowhere ns g _ _ c.loop-k.k (omega (arith, counted (goal.at.returns c).After-record_count-k-end x)) (c.loop-k.invariant ns g x)
