-- Rows of figures read back: two replies with the same row are the same.
use Rattle.std.specs.Prelude.{Result, Err, Ok}
use mathlib.Core.Path.{◌≡◌, refl}
use mathlib.Core.Bool.{cond}
use mathlib.Core.List.{List}
use Prim.Native.Nat.{ℕ, ◌+◌}
use lib.Dec.{eqb}
use lib.IntN.{ℤ, pos}
use lib.ListN.{length, get_or}
use Rattle.signs.proofs.Readback.{natural}
use Rattle.program.specs.declared.Refusal.{Refusal}
use Rattle.program.proofs.Laws.{same_row}
use Rattle.figures.specs.Figures.{fraction_numbers, totals_numbers, class_numbers, figures_numbers}
use Rattle.figures.specs.declared.Figures.{Figures}

-- totals, mean and variance from a place on
abbrev read_from : List ℤ → ℕ → Figures
read_from l i =
    record {
      totals = record { count = natural (get_or l i (pos 0)); sum = get_or l (i + 1) (pos 0); squares = get_or l (i + 2) (pos 0) };
      mean = record { numerator = get_or l (i + 3) (pos 0); denominator = get_or l (i + 4) (pos 0) };
      variance = record { numerator = get_or l (i + 5) (pos 0); denominator = get_or l (i + 6) (pos 0) };
    }

abbrev figures_read : List ℤ → Result Figures Refusal
figures_read l =
    cond (eqb (length l) 8)
    (Ok (read_from l 1))
    (Err (record { number = natural (get_or l 0 (pos 0)); offset = natural (get_or l 1 (pos 0)) }))

figures_back : (f : Result Figures Refusal) → figures_read (figures_numbers f) ≡ f
unfolding figures_numbers class_numbers fraction_numbers totals_numbers natural
figures_back (Ok f) = refl
figures_back (Err x) = refl

pub figures_row_lem : (f g : Result Figures Refusal) → figures_numbers f ≡ figures_numbers g → f ≡ g
figures_row_lem f g = same_row figures_numbers (λ l. figures_read l) (figures_back f) (figures_back g)
