-- `pizwoter_split`: too short, or by the answer's cases: record and column, or the refusal.
use mathlib.Core.Path.{sym, refl, ap, ◌∙◌}
use mathlib.Core.List.{[], ◌∷◌, map}
use native.Mathlib.Omega.{arith}
use lib.IntN.{pos}
use Rattle.analysis.specs.Splitter.{split_numbers, split_row}
use Rattle.desk.specs.Rows.{two_told, split}
use Rattle.desk.proofs.Heads.{split_head, unsplit_head}
use Rattle.desk.proofs.Places.{split_narrow}
use Rattle.desk.proofs.Replies.{short_told, told_by}
use Rattle.desk.proofs.solver.pizwoter_split.Goals as goal

pub returns-then-reply-lt-SPLIT : goal.returns-then-reply-lt-SPLIT
returns-then-reply-lt-SPLIT c = short_told _ _ (omega (arith, c.if-reply-lt-SPLIT.true)) _

pub refused-requires : goal.refused-requires
refused-requires c = split_narrow _ _ c.split.ensures.value _ c.in-Err.is

pub returns-in-Ok : goal.returns-in-Ok
unfolding split split_row
returns-in-Ok c =
    let s = c.in-Ok.split in
    told_by (omega (arith, c.if-reply-lt-SPLIT.false)) (map pos (s.record ∷ s.column ∷ [])) c.put.type_inv
    (ap (λ x. two_told (split_numbers x)) (sym c.split.ensures.value ∙ c.in-Ok.is) ∙ split_head s) refl c.put.ensures

pub returns-in-Err : goal.returns-in-Err
unfolding split split_row
returns-in-Err c =
    told_by (omega (arith, c.if-reply-lt-SPLIT.false)) (map pos (0 ∷ 0 ∷ [])) c.put-in-Err.type_inv
    (ap (λ x. two_told (split_numbers x)) (sym c.split.ensures.value ∙ c.in-Err.is) ∙ unsplit_head _) c.refused.ensures c.put-in-Err.ensures
