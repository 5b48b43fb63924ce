-- `pizwoter_draw`: too short, or by the answer's cases: nodes and edges, or the refusal.
use mathlib.Core.Path.{refl, sym, ap, ◌∙◌}
use mathlib.Core.List.{[], ◌∷◌, map}
use native.Mathlib.Omega.{arith}
use lib.IntN.{pos}
use Rattle.program.specs.Drawing.{drawn_numbers, drawing_row}
use Rattle.desk.specs.Rows.{two_told, drew}
use Rattle.desk.proofs.Heads.{drawn_head, undrawn_head}
use Rattle.desk.proofs.Places.{drawn_narrow}
use Rattle.desk.proofs.Replies.{short_told, short_kept, roomy_kept, told_by}
use Rattle.desk.proofs.files.pizwoter_draw.Goals as goal

pub returns-then-reply-lt-DRAWING : goal.returns-then-reply-lt-DRAWING
returns-then-reply-lt-DRAWING c = record { tells = short_told _ _ (omega (arith, c.if-reply-lt-DRAWING.true)) _; buffer = short_kept _ _ (omega (arith, c.if-reply-lt-DRAWING.true)) _ _ }

pub refused-requires : goal.refused-requires
refused-requires c = drawn_narrow _ _ _ c.draw_on.ensures.value.0 _ c.in-Err.is

pub returns-in-Ok : goal.returns-in-Ok
unfolding drew drawing_row
returns-in-Ok c =
    let made = rw c.named.ensures at c.draw_on.ensures.value in
    let d = c.in-Ok.drawn in record {
      tells = told_by (omega (arith, c.if-reply-lt-DRAWING.false)) (map pos (d.nodes ∷ d.edges ∷ [])) c.put.type_inv
          (ap (λ x. two_told (drawn_numbers x)) (sym made.0 ∙ c.in-Ok.is) ∙ drawn_head d) refl c.put.ensures;
      buffer = made.1 ∙ roomy_kept _ _ (omega (arith, c.if-reply-lt-DRAWING.false)) _ _;
    }

pub returns-in-Err : goal.returns-in-Err
unfolding drew drawing_row
returns-in-Err c =
    let made = rw c.named.ensures at c.draw_on.ensures.value in record {
      tells = told_by (omega (arith, c.if-reply-lt-DRAWING.false)) (map pos (0 ∷ 0 ∷ [])) c.put-in-Err.type_inv
          (ap (λ x. two_told (drawn_numbers x)) (sym made.0 ∙ c.in-Err.is) ∙ undrawn_head _) c.refused.ensures c.put-in-Err.ensures;
      buffer = made.1 ∙ roomy_kept _ _ (omega (arith, c.if-reply-lt-DRAWING.false)) _ _;
    }
