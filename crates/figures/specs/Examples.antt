-- Worked figures: one mark, marks all the same, the ends of the range, and the refusals. `proofs/Examples` shows that each holds.
use Rattle.std.specs.Prelude.{List, [], ◌∷◌, ◌++◌, pos, replicate}
use Rattle.signs.specs.Case.{Case, ◌gives◌, row, minus}
use Rattle.figures.specs.Figures.{list_figures, join_figures, figures_numbers}
use Rattle.figures.specs.Totals.{class, totals}

-- one mark has itself as the mean, over 1, and no variance, and so have marks all the same; 3, 4 and 4 have the mean 11 over 3 and the variance 2 over 9; −6 and 2 have −2 over 1
-- and 16 over 1; marks that come to 0 have 0 over 1
unfoldable pub lists : List Case
lists =
    (figures_numbers (list_figures (minus 7 ∷ [])) gives (pos 0 ∷ pos 1 ∷ minus 7 ∷ pos 49 ∷ minus 7 ∷ pos 1 ∷ pos 0 ∷ pos 1 ∷ []))
    ∷ (figures_numbers (list_figures (row (7 ∷ 7 ∷ 7 ∷ []))) gives row (0 ∷ 3 ∷ 21 ∷ 147 ∷ 7 ∷ 1 ∷ 0 ∷ 1 ∷ []))
    ∷ (figures_numbers (list_figures (row (3 ∷ 4 ∷ 4 ∷ []))) gives row (0 ∷ 3 ∷ 11 ∷ 41 ∷ 11 ∷ 3 ∷ 2 ∷ 9 ∷ []))
    ∷ (figures_numbers (list_figures (minus 6 ∷ pos 2 ∷ [])) gives (pos 0 ∷ pos 2 ∷ minus 4 ∷ pos 40 ∷ minus 2 ∷ pos 1 ∷ pos 16 ∷ pos 1 ∷ []))
    ∷ (figures_numbers (list_figures (minus 5 ∷ pos 5 ∷ [])) gives row (0 ∷ 2 ∷ 0 ∷ 50 ∷ 0 ∷ 1 ∷ 25 ∷ 1 ∷ []))
    ∷ (figures_numbers (list_figures (minus 10000 ∷ pos 10000 ∷ pos 10000 ∷ [])) gives row (0 ∷ 3 ∷ 10000 ∷ 300000000 ∷ 10000 ∷ 3 ∷ 800000000 ∷ 9 ∷ []))
    ∷ []

-- no mark is 23, and so are 4,097, whatever they are; a mark outside the range is 24 with its number in the list, the first of two; totals are zero then and both fractions 0 over 1
unfoldable pub refusals : List Case
refusals =
    (figures_numbers (list_figures []) gives row (23 ∷ 0 ∷ 0 ∷ 0 ∷ 0 ∷ 0 ∷ 1 ∷ 0 ∷ 1 ∷ []))
    ∷ (figures_numbers (list_figures (replicate 4097 (pos 10001))) gives row (23 ∷ 0 ∷ 0 ∷ 0 ∷ 0 ∷ 0 ∷ 1 ∷ 0 ∷ 1 ∷ []))
    ∷ (figures_numbers (list_figures (pos 10000 ∷ pos 10001 ∷ minus 10001 ∷ [])) gives row (24 ∷ 1 ∷ 0 ∷ 0 ∷ 0 ∷ 0 ∷ 1 ∷ 0 ∷ 1 ∷ []))
    ∷ []

-- 3, 4 and 4 joined with −7; with a class of no mark; two classes of no mark; joint lists of 4,096 and 4,097 marks; and a second class of 2 marks
-- whose sum, sum of squares or variance cannot be
unfoldable pub joins : List Case
joins =
    let first = class 3 (pos 11) (pos 41) in
    let refusal = row (23 ∷ 0 ∷ 0 ∷ 0 ∷ 0 ∷ 0 ∷ 1 ∷ 0 ∷ 1 ∷ []) in
    (figures_numbers (join_figures first (class 1 (minus 7) (pos 49))) gives row (0 ∷ 4 ∷ 4 ∷ 90 ∷ 1 ∷ 1 ∷ 43 ∷ 2 ∷ []))
    ∷ (figures_numbers (join_figures first (totals [])) gives row (0 ∷ 3 ∷ 11 ∷ 41 ∷ 11 ∷ 3 ∷ 2 ∷ 9 ∷ []))
    ∷ (figures_numbers (join_figures (totals []) (totals [])) gives refusal)
    ∷ (figures_numbers (join_figures (class 4093 (pos 0) (pos 0)) first) gives row (0 ∷ 4096 ∷ 11 ∷ 41 ∷ 11 ∷ 4096 ∷ 167815 ∷ 16777216 ∷ []))
    ∷ (figures_numbers (join_figures (class 4094 (pos 0) (pos 0)) first) gives refusal)
    ∷ (figures_numbers (join_figures first (class 2 (minus 20001) (pos 200000000))) gives refusal)
    ∷ (figures_numbers (join_figures first (class 2 (pos 0) (minus 1))) gives refusal)
    ∷ (figures_numbers (join_figures first (class 2 (pos 0) (pos 200000001))) gives refusal)
    ∷ (figures_numbers (join_figures first (class 2 (pos 3) (pos 4))) gives refusal)
    ∷ []

unfoldable pub cases : List Case
cases = lists ++ refusals ++ joins
