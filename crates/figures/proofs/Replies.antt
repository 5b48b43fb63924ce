-- What is replied, by the answers to the questions.
use Rattle.std.specs.Prelude.{Result, Err, Ok}
use mathlib.Core.Path.{◌≡◌, refl, sym, ap, ◌∙◌}
use mathlib.Core.List.{List}
use lib.IntN.{ℤ}
use Rattle.program.specs.Asking.{Validity}
use Rattle.program.proofs.Never.{never}
use Rattle.program.specs.declared.Refusal.{Refusal}
use Rattle.figures.specs.Figures.{list_validity, join_validity, figures_of, figures_by, list_figures, join_figures, figures_numbers}
use Rattle.figures.specs.Totals.{totals, joined}
use Rattle.figures.specs.declared.Figures.{Figures}
use Rattle.figures.specs.declared.Totals.{Totals}

-- a reply, and the same in numbers
pub numbered : {f g : Result Figures Refusal} → f ≡ g → record { value : f ≡ g; numbers : figures_numbers f ≡ figures_numbers g }
numbered e = record { value = e; numbers = ap figures_numbers e }

-- by an answer: the figures where it is yes, and the refusal handed on where it is not
pub by_fit : (v : Validity) (t : Totals) → v ≡ Ok tt → Ok (figures_of t) ≡ figures_by v t
unfolding figures_by
by_fit v t e = rw e

pub by_refused : (v : Validity) (t : Totals) (x : Refusal) → v ≡ Err x → Err x ≡ figures_by v t
unfolding figures_by
by_refused v t x e = rw e

-- the answer of a reply
unfoldable pub answer : Result Figures Refusal → Validity
answer (Ok f) = Ok tt
answer (Err x) = Err x

-- is that to the questions, and the figures of a fit one are those of the totals that it was made of
by_answer : (v : Validity) (t : Totals) → answer (figures_by v t) ≡ v
unfolding figures_by answer
by_answer (Ok _) t = refl
by_answer (Err x) t = refl

by_totals : (v : Validity) (t : Totals) (f : Figures) → figures_by v t ≡ Ok f → f ≡ figures_of t
unfolding figures_by
by_totals (Ok _) t f e = cc
by_totals (Err x) t f e = never (cc)

pub list_answer : (marks : List ℤ) → answer (list_figures marks) ≡ list_validity marks
unfolding list_figures
list_answer marks = by_answer (list_validity marks) (totals marks)

pub join_answer : (a b : Totals) → answer (join_figures a b) ≡ join_validity a b
unfolding join_figures
join_answer a b = by_answer (join_validity a b) (joined a b)

module _ (marks : List ℤ) (f : Figures) (e : list_figures marks ≡ Ok f) where
  pub list_fit : list_validity marks ≡ Ok tt
  unfolding answer
  list_fit = sym (list_answer marks) ∙ ap answer e

  pub list_made : f ≡ figures_of (totals marks)
  unfolding list_figures
  list_made = by_totals _ _ f e

  pub list_totals : f.totals ≡ totals marks
  unfolding figures_of
  list_totals = ap (λ (f : Figures). f.totals) list_made

module _ (a b : Totals) (f : Figures) (e : join_figures a b ≡ Ok f) where
  pub join_fit : join_validity a b ≡ Ok tt
  unfolding answer
  join_fit = sym (join_answer a b) ∙ ap answer e

  pub join_made : f ≡ figures_of (joined a b)
  unfolding join_figures
  join_made = by_totals _ _ f e

-- a refused one has the refusal of its questions
pub list_refused : (marks : List ℤ) (x : Refusal) → list_figures marks ≡ Err x → list_validity marks ≡ Err x
unfolding answer
list_refused marks x e = sym (list_answer marks) ∙ ap answer e

pub join_refused : (a b : Totals) (x : Refusal) → join_figures a b ≡ Err x → join_validity a b ≡ Err x
unfolding answer
join_refused a b x e = sym (join_answer a b) ∙ ap answer e
