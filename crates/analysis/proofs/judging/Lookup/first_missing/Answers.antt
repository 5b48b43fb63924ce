-- `Lookup::first_missing`: the links are followed up to the first edge along which a result is missing, or the first guard that may not fail.
use Rattle.std.proofs.Common.{◌≡◌, ℕ, ◌<◌, Bool, cond, List, [], ◌∷◌, length, get_or, sym, ap, ◌∙◌, arith}
use borrow.Author.Tests.{not-true, not-false}
use Rattle.signs.specs.declared.Truths.{Truths}
use Rattle.program.specs.Graph.{Graph, edge_at}
use Rattle.program.specs.Parts.Prepared.{edge_count_place}
use Rattle.program.proofs.Laws.{next_is_followed, next_is_beyond}
use Rattle.analysis.specs.Parts.Judging.{any_missing, ReadInto, Searched}
use Rattle.analysis.specs.Signs.{truths_in}
use Rattle.analysis.specs.declared.judging.Query.TheVariants.{MissingResult}
use Rattle.analysis.proofs.Searching.{no_guard, missing_here, none_after}
use Rattle.analysis.proofs.Tested.{own_at}
use Rattle.analysis.proofs.judging.Lookup.first_missing.Goals as goal
use Rattle.analysis.proofs.judging.Lookup.first_missing.Goals.{After-guard_missing, After-own_truths-t, In-loop-e}

pub loop-e-init : goal.loop-e-init
loop-e-init c node o = record { here = λ h. o.here; before = λ k l d s. absurd (o.none k l s) }

-- the edge whose guard is asked exists
there : (c : In-loop-e) → c.loop-e.e < get_or c.args.machine.graph.now edge_count_place 0
there c = omega (arith, c.loop-e-test.true, c.edge_count-count.ensures)

-- whether a result is missing along it
missing : (c : After-guard_missing) (ns : List ℕ) (g : Graph) (ρ : List ℕ)
    → length ns ≡ c.args.self.now.names → (let a = c.args in
    Searched ns g a.machine.code.now a.machine.graph.now MissingResult a.self.now.solution.now a.self.now.index.now → ReadInto ρ a.self.now.rho.now (length ns) → c.loop-e.e < length g.edges
    → c.guard_missing.result ≡ any_missing ns a.self.now.solution.now (edge_at g c.loop-e.e).target
    (cond (truths_in a.self.now.rho.now (own_at a.machine.code.now a.machine.graph.now c.loop-e.e)).holds (ρ ∷ []) []))
missing c ns g ρ e x y h = rw c.own_truths-t.ensures at (c.guard_missing.ensures ns g ρ e x y h)

-- whether its own guard may fail
failing : (c : After-own_truths-t) {b : Bool} → c.own_truths-t.result.fails ≡ b
    → (truths_in c.args.self.now.rho.now (own_at c.args.machine.code.now c.args.machine.graph.now c.loop-e.e)).fails ≡ b
failing c t = sym (ap (λ (v : Truths). v.fails) c.own_truths-t.ensures) ∙ t

pub returns-then-guard_missing : goal.returns-then-guard_missing
returns-then-guard_missing c ns g ρ node e x y o =
    sym (missing_here e x y o c.loop-e.e (c.loop-e.invariant node o) (there (goal.at.returns-then-guard_missing c).In-loop-e) (sym (missing (goal.at.returns-then-guard_missing c).After-guard_missing ns g ρ e x y (omega (arith, there (goal.at.returns-then-guard_missing c).In-loop-e, x.prepared.edges))) ∙ c.if-guard_missing.true))

pub returns-then-not-t : goal.returns-then-not-t
returns-then-not-t c ns g ρ node e x y o =
    sym
    (none_after e x y o c.loop-e.e (c.loop-e.invariant node o) (there (goal.at.returns-then-not-t c).In-loop-e) (sym (missing (goal.at.returns-then-not-t c).After-guard_missing ns g ρ e x y (omega (arith, there (goal.at.returns-then-not-t c).In-loop-e, x.prepared.edges))) ∙ c.if-guard_missing.false)
    (failing (goal.at.returns-then-not-t c).After-own_truths-t (not-true _ c.if-not-t.true)))

pub loop-e-smaller : goal.loop-e-smaller
loop-e-smaller c =
    let more = next_is_beyond c.args.machine.linked c.loop-e.e (there (goal.at.loop-e-smaller c).In-loop-e) in
    omega (arith, c.next_edge-e.ensures, c.loop-e-test.true)

pub loop-e-preserved : goal.loop-e-preserved
loop-e-preserved c node o =
    rw c.next_edge-e.ensures
    (next_is_followed c.args.machine.linked node _ c.loop-e.e (there (goal.at.loop-e-preserved c).In-loop-e) (c.loop-e.invariant node o)
    (record { fails = failing (goal.at.loop-e-preserved c).After-own_truths-t (not-false _ c.if-not-t.false); listed = λ ns g ρ e x y h. sym (missing (goal.at.loop-e-preserved c).After-guard_missing ns g ρ e x y h) ∙ c.if-guard_missing.false }))

pub returns : goal.returns
returns c ns g ρ node e x y o =
    sym (no_guard e x y o c.loop-e.e (c.loop-e.invariant node o) (omega (arith, c.loop-e-test.false, c.edge_count-count.ensures)))
