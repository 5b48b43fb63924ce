-- `judging::first_initial`: the first that the library finds.
use Rattle.std.proofs.Common.{◌≡◌, true, false, rules}
use Rattle.std.proofs.lemmas.Iterator.{first_from_Range}
use Rattle.analysis.proofs.Searching.{is_missing, missing_found}
use Rattle.analysis.proofs.judging.first_initial.Goals as goal

pub record_count-requires : goal.record_count-requires
record_count-requires c = let p = c.requires in (p.1, p.3)

pub returns : goal.returns
returns c ns e =
    let a = c.args in
    let missing = is_missing ns a.initial.now a.solution.now in
    missing_found ns a.initial.now a.solution.now e _ c.record_count.ensures c.find.result
    (first_from_Range _ _ _ c.find.result (λ k. missing k ≡ true) (λ k. missing k ≡ false) c.find.ensures.ran
    (λ x q k. search rules)
    (λ x q k. (search rules, search rules)))
