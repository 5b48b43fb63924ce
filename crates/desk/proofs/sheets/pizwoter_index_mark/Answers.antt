-- `pizwoter_index_mark`: too short, or the head of the answer, with record and edge.
use mathlib.Core.Path.{sym, ap, subst, ◌∙◌}
use mathlib.Core.List.{map}
use native.Mathlib.Omega.{arith}
use lib.IntN.{pos}
use Rattle.analysis.specs.Verdict.{marking_numbers, mark_row}
use Rattle.desk.specs.Parts.Heads.{marking_head}
use Rattle.desk.specs.Reply.{tell}
use Rattle.desk.specs.Rows.{mark_told, marked}
use Rattle.desk.proofs.Heads.{marking_head_lem}
use Rattle.desk.proofs.Places.{MarkingTold, marking_told, marking_narrow}
use Rattle.desk.proofs.Replies.{short_told, told_by}
use Rattle.desk.proofs.sheets.pizwoter_index_mark.Goals as goal

pub returns-then-reply-lt-MARK : goal.returns-then-reply-lt-MARK
returns-then-reply-lt-MARK c = short_told _ _ (omega (arith, c.if-reply-lt-MARK.true)) _

pub of_marking-requires : goal.of_marking-requires
of_marking-requires c = marking_narrow _ _ c.index_mark-marking.ensures.value

pub returns : goal.returns
unfolding marked mark_row
returns c =
    let m = c.index_mark-marking.result in
    let told = subst MarkingTold (sym c.index_mark-marking.ensures.value) (marking_told _ _) in
    told_by (omega (arith, c.if-reply-lt-MARK.false)) (map pos c.spot-numbers.result) c.put.type_inv
    (ap (λ x. mark_told (marking_numbers x)) (sym c.index_mark-marking.ensures.value) ∙ marking_head_lem m told ∙ ap (λ xs. tell (marking_head m) (map pos xs)) (sym c.spot-numbers.ensures)) c.of_marking.ensures c.put.ensures
