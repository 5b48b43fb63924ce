-- The place of a refusal: a mark's number, and never a large one.
use Rattle.std.specs.Prelude.{Err}
use mathlib.Core.Path.{◌≡◌}
use mathlib.Core.List.{List}
use native.Mathlib.Omega.{arith}
use lib.IntN.{ℤ}
use lib.ListN.{length}
use Rattle.program.specs.declared.Refusal.{Refusal}
use Rattle.program.proofs.Laws.{ask_fit, placed_ask, placed_then, placed_each}
use Rattle.program.proofs.Places.{Told, Placed}
use Rattle.figures.specs.Figures.{mark_validity, list_validity, join_validity, list_figures, join_figures}
use Rattle.figures.specs.Totals.{longest}
use Rattle.figures.specs.declared.Totals.{Totals}
use Rattle.figures.proofs.Limits.{counted}
use Rattle.figures.proofs.Replies.{list_refused, join_refused}

pub list_placed : (marks : List ℤ) (x : Refusal) → list_figures marks ≡ Err x → Told longest x
unfolding list_validity mark_validity
list_placed marks x e =
    let placed : Placed longest (list_validity marks) =
    placed_then _ _ (placed_ask _ 23 0 tt (omega arith))
    (λ fit. placed_each (length marks) (mark_validity marks) (λ k h. placed_ask _ 24 k tt (omega (arith, (counted (length marks) (ask_fit _ 23 0 fit)).few)))) in
    placed x (list_refused marks x e)

pub join_placed : (a b : Totals) (x : Refusal) → join_figures a b ≡ Err x → Told longest x
unfolding join_validity
join_placed a b x e = placed_ask _ 23 0 tt (omega arith) x (join_refused a b x e)
