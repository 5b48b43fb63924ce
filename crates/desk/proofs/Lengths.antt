-- Every row has the length of its call.
use Rattle.std.specs.Prelude.{Result, Err, Ok}
use mathlib.Core.Path.{◌≡◌, refl}
use mathlib.Core.Bool.{Bool, true, false, cond}
use mathlib.Core.List.{List}
use Prim.Native.Nat.{ℕ}
use lib.IntN.{ℤ}
use lib.ListN.{length}
use lib.Dec.{eqb}
use Rattle.program.specs.Questions.{validation_row, input_row}
use Rattle.program.specs.Drawing.{drawing_row}
use Rattle.program.specs.declared.Refusal.{Refusal}
use Rattle.semantics.specs.Budget.{run_row}
use Rattle.semantics.specs.Step.{Configuration, step_row}
use Rattle.analysis.specs.Solver.{solver_row}
use Rattle.analysis.specs.Splitter.{split_row}
use Rattle.analysis.specs.Verdict.{verdict_row, mark_row}
use Rattle.figures.specs.Figures.{list_figures, join_figures, figures_row, join_row, totals_numbers, fraction_numbers, class_numbers, figures_numbers}
use Rattle.figures.specs.declared.Figures.{Figures}
use Rattle.figures.specs.declared.Totals.{Totals}
use Rattle.desk.specs.Reply.{Told, answered_with, refused_with, malformed_with}
use Rattle.desk.specs.Rows.{◌!◌, validation_told, validated, input_validated, parts_told, parts, two_told, drew, stepped, ran, verdict_told, judged, mark_told, marked, solver_told, solved, split, figures_told, figured, joined}
use Rattle.program.specs.declared.Construction.{Construction}

abbrev pub Long : ℕ → Told → Type 0
Long n t = length t.row ≡ n

-- of either
choice : (n : ℕ) (b : Bool) (t u : Told) → Long n t → Long n u → Long n (cond b t u)
choice n true t u p q = p
choice n false t u p q = q

validation_long : (xs : List ℕ) → Long 3 (validation_told xs)
unfolding validation_told answered_with refused_with
validation_long xs = choice 3 (eqb (length xs) 1) _ _ refl refl

two_long : (xs : List ℕ) → Long 5 (two_told xs)
unfolding two_told answered_with refused_with
two_long xs = choice 5 (eqb (length xs) 3) _ _ refl refl

pub validated_long : (s : List ℕ) → Long 3 (validated s)
unfolding validated
validated_long s = validation_long (validation_row s)

pub input_long : (s : List ℕ) → Long 3 (input_validated s)
unfolding input_validated
input_long s = validation_long (input_row s)

pub parts_long : (s : List ℕ) → Long 6 (parts s)
unfolding parts parts_told answered_with refused_with
parts_long s = choice 6 (eqb (length (input_row s)) 1) _ _ refl refl

pub drew_long : (κ : Construction) (s buffer : List ℕ) → Long 5 (drew κ s buffer)
unfolding drew
drew_long κ s buffer = two_long (drawing_row κ s buffer)

pub stepped_long : (κ : Construction) (s : List ℕ) (c : Configuration) (e : ℕ) → Long 5 (stepped κ s c e)
unfolding stepped
stepped_long κ s c e = two_long (step_row κ s c e)

pub ran_long : (κ : Construction) (s : List ℕ) (budget : ℕ) (m : List ℤ) → Long 5 (ran κ s budget m)
unfolding ran
ran_long κ s budget m = two_long (run_row κ s budget m)

pub split_long : (s : List ℕ) (place : ℕ) → Long 5 (split s place)
unfolding split
split_long s place = two_long (split_row s place)

pub judged_long : (κ : Construction) (s initial solution : List ℕ) → Long 10 (judged κ s initial solution)
unfolding judged verdict_told answered_with refused_with malformed_with
judged_long κ s initial solution =
    let xs = verdict_row κ s initial solution in
    choice 10 (eqb (xs ! 0) 0) _ _ refl (choice 10 (eqb (xs ! 0) 41) _ _ refl (choice 10 (eqb (xs ! 0) 42) _ _ refl (choice 10 (eqb (length xs) 3) _ _ refl refl)))

pub marked_long : (s solution : List ℕ) → Long 5 (marked s solution)
unfolding marked mark_told answered_with refused_with malformed_with
marked_long s solution = let xs = mark_row s solution in choice 5 (eqb (xs ! 0) 0) _ _ refl (choice 5 (eqb (length xs) 3) _ _ refl refl)

pub solved_long : (κ : Construction) (s initial buffer : List ℕ) → Long 4 (solved κ s initial buffer)
unfolding solved solver_told answered_with refused_with malformed_with
solved_long κ s initial buffer =
    let xs = solver_row κ s initial buffer in
    choice 4 (eqb (length xs) 4) _ _ refl (choice 4 (eqb (length xs) 3) _ _ refl (choice 4 (eqb (xs ! 0) 0) _ _ refl refl))

figures_long : (f : Result Figures Refusal) → Long 10 (figures_told (figures_numbers f))
unfolding figures_told figures_numbers class_numbers totals_numbers fraction_numbers answered_with refused_with
figures_long (Ok f) = refl
figures_long (Err x) = refl

pub figured_long : (marks : List ℤ) → Long 10 (figured marks)
unfolding figured figures_row
figured_long marks = figures_long (list_figures marks)

pub joined_long : (a b : Totals) → Long 10 (joined a b)
unfolding joined join_row
joined_long a b = figures_long (join_figures a b)
