-- The figures of a list of marks, and of two classes joined (document 02, order 13).
use Rattle.std.specs.Prelude.{ℕ, ◌+◌, ◌*◌, ◌<◌, ◌≡◌, Bool, true, ◌&&◌, List, [], ◌∷◌, ◌++◌, ℤ, pos, neg_ℤ, length, get_or, Result, Err, Ok}
use Rattle.std.specs.Int.Signed.{le_z}
use Rattle.program.specs.Asking.{ask, ask_plain, then_ask, ask_each, Validity}
use Rattle.program.specs.declared.Refusal.{Refusal}
use Rattle.figures.specs.Fraction.{lowest, nought, LowestTerms}
use Rattle.figures.specs.Totals.{highest, totals, none, joined, spread, countable, possible}
use Rattle.figures.specs.declared.Figures.{Figures}
use Rattle.figures.specs.declared.Fraction.{Fraction}
use Rattle.figures.specs.declared.Totals.{Totals}

-- "The mean is the sum over the number of marks"
unfoldable pub mean : Totals → Fraction
mean t = lowest t.sum t.count

-- "the variance is the number times the sum of squares, less the square of the sum, over the number squared"
unfoldable pub variance : Totals → Fraction
variance t = lowest (spread t) (t.count * t.count)

-- "each from −10,000 to 10,000"
unfoldable pub in_range : ℤ → Bool
in_range x = le_z (neg_ℤ (pos highest)) x && le_z x (pos highest)

-- a list of marks each of which is in the range
abbrev pub InRange : List ℤ → Type 0
InRange marks = (i : ℕ) → i < length marks → in_range (get_or marks i (pos 0)) ≡ true

-- "24, first mark outside the range, with its place": the question at each mark, whose place is its number in the list
unfoldable pub mark_validity : List ℤ → ℕ → Validity
mark_validity marks i = ask (in_range (get_or marks i (pos 0))) 24 i

-- "23, list … empty or too long", then 24: "asked after 23"
unfoldable pub list_validity : List ℤ → Validity
list_validity marks = then_ask (ask_plain (countable (length marks)) 23) (ask_each (length marks) (mark_validity marks))

-- "23, … joint list empty or too long, or, for either class, …"
unfoldable pub join_validity : Totals → Totals → Validity
join_validity a b = ask_plain (countable (a.count + b.count) && possible a && possible b) 23

-- the figures of totals
unfoldable pub figures_of : Totals → Figures
figures_of t = record { totals = t; mean = mean t; variance = variance t }

-- the reply by the answer to the questions: the figures of totals, or the refusal
unfoldable pub figures_by : Validity → Totals → Result Figures Refusal
figures_by (Ok _) t = Ok (figures_of t)
figures_by (Err x) t = Err x

-- the figures of a list of marks
unfoldable pub list_figures : List ℤ → Result Figures Refusal
list_figures marks = figures_by (list_validity marks) (totals marks)

-- the figures of two classes joined
unfoldable pub join_figures : Totals → Totals → Result Figures Refusal
join_figures a b = figures_by (join_validity a b) (joined a b)

-- what the order says of a reply that is not refused: both fractions are in lowest terms, and the same ratios as the totals give; no variance is
-- below zero; and the totals can be joined again. `proofs/Laws` shows it of both
pub record Exact (f : Figures) : Type 0 where
  pub mean : LowestTerms f.totals.sum f.totals.count f.mean
  pub variance : LowestTerms (spread f.totals) (f.totals.count * f.totals.count) f.variance
  pub natural : le_z (pos 0) f.variance.numerator ≡ true
  pub again : possible f.totals ≡ true

-- a reply in document 02's numbers: the answer's, then the totals, then mean and variance, each numerator first
unfoldable pub fraction_numbers : Fraction → List ℤ
fraction_numbers f = f.numerator ∷ f.denominator ∷ []

unfoldable pub totals_numbers : Totals → List ℤ
totals_numbers t = pos t.count ∷ t.sum ∷ t.squares ∷ []

unfoldable pub class_numbers : Figures → List ℤ
class_numbers f = totals_numbers f.totals ++ fraction_numbers f.mean ++ fraction_numbers f.variance

-- where a class is refused, a row has zero totals and both fractions 0 over 1
abbrev pub no_figures : Figures
no_figures = record { totals = none; mean = nought; variance = nought }

unfoldable pub figures_numbers : Result Figures Refusal → List ℤ
figures_numbers (Ok f) = pos 0 ∷ class_numbers f
figures_numbers (Err x) = pos x.number ∷ pos x.offset ∷ class_numbers no_figures

-- the rows that the figures of a list of marks and of two classes joined answer
unfoldable pub figures_row : List ℤ → List ℤ
figures_row marks = figures_numbers (list_figures marks)

unfoldable pub join_row : Totals → Totals → List ℤ
join_row a b = figures_numbers (join_figures a b)
