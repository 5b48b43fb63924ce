-- `judging::ever_negative`: where the answer is no, it was no for each edge.
use Rattle.std.proofs.Common.{◌≡◌, ℕ, ◌<◌, get_or, refl, ◌∙◌, subst, arith, rules}
use Rattle.std.specs.List.{range_with_len}
use Rattle.std.proofs.lemmas.Iterator.{YieldsList-from_range, cases_from_any}
use Rattle.std.proofs.lemmas.List.FromFn.{length-range_with_len, get_or-range_with_len}
use Rattle.analysis.specs.Parts.Judging.{widest, NeverNegative}
use Rattle.analysis.proofs.judging.ever_negative.Goals as goal

pub returns : goal.returns
unfolding NeverNegative widest
returns c p e h =
    let a = c.args in
    let n = c.edge_count.result in
    let by =
    cases_from_any _ _ c.any.result (λ (k : ℕ). Unit {0}) (λ (k : ℕ). NeverNegative a.machine.code.now a.machine.graph.now k) c.any.ensures.ran
    (YieldsList-from_range 0 n n refl (omega arith))
    (λ x q k. tt)
    (λ x q k. (search rules, cc))
    in
    let no = rw p at by in
    let inside : e < n = omega (arith, c.edge_count.ensures) in
    let here : get_or (range_with_len 0 n) e 0 ≡ e = get_or-range_with_len 0 n e 0 inside ∙ omega arith in
    subst (λ (k : ℕ). NeverNegative a.machine.code.now a.machine.graph.now k) here (no e 0 (omega arith) (omega (arith, length-range_with_len 0 n)))
