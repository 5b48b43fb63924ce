-- `classes::put`: by the reply's cases, figures or the refusal.
use mathlib.Core.Path.{refl, ap, ◌∙◌}
use Rattle.figures.specs.Figures.{class_numbers, no_figures, figures_numbers}
use Rattle.desk.specs.Rows.{figures_told}
use Rattle.desk.proofs.Heads.{figures_head, no_figures_head}
use Rattle.desk.proofs.Replies.{told_by}
use Rattle.desk.proofs.classes.put.Goals as goal

pub returns-in-Ok : goal.returns-in-Ok
returns-in-Ok c =
    told_by c.requires.room (class_numbers c.in-Ok.f) c.put_figures.type_inv
    (ap (λ f. figures_told (figures_numbers f)) c.in-Ok.is ∙ figures_head _) refl c.put_figures.ensures

pub returns-in-Err : goal.returns-in-Err
returns-in-Err c =
    told_by c.requires.room (class_numbers no_figures) c.put_figures-in-Err.type_inv
    (ap (λ f. figures_told (figures_numbers f)) c.in-Err.is ∙ no_figures_head _) c.refused.ensures (rw c.none.ensures at c.put_figures-in-Err.ensures)
