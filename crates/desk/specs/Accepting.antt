-- The third term, said of what the verdict's call returned and wrote.
use Rattle.std.specs.Prelude.{ℕ, cond, ◌≡◌, List, ℤ, pos, nat_abs, get_or}
use Rattle.signs.specs.Number.{equal}
use Rattle.program.specs.declared.Construction.{Construction}
use Rattle.analysis.specs.Soundness.{Sound}
use Rattle.analysis.specs.declared.Mark.{Mark}
use Rattle.analysis.specs.declared.Mark.TheVariants.{Clean, Unclean}
use Rattle.desk.specs.Rows.{clean}

-- the places of a verdict's row that tell the answer, the index mark, and its record and edge
abbrev pub answer_place : ℕ
answer_place = 0

abbrev pub mark_place : ℕ
mark_place = 7

-- the index mark that a row tells of an accepted sheet
unfoldable pub mark_in : List ℤ → Mark
mark_in row = cond (equal (get_or row mark_place (pos 0)) (pos clean)) Clean (Unclean (nat_abs (get_or row 8 (pos 0))) (nat_abs (get_or row 9 (pos 0))))

-- where the call returned 0 and the row's answer is 0, the sheet is accepted, and `Sound` of it: for every memory whose signs are in the start list, every list of step
-- calls and every budget, on the graph that it was judged for, the sheet has the record of what is reached; and where the row says clean, no index below zero is met
unfoldable pub ThirdTermTold : Construction → List ℕ → List ℕ → List ℕ → ℤ → List ℤ → Type 0
ThirdTermTold κ s initial solution r row =
    r ≡ pos 0 → get_or row answer_place (pos 0) ≡ pos 0 → Sound κ s initial solution (mark_in row)
