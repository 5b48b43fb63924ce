-- `splitting::split`: the refusal handed on, or by the width.
use Rattle.std.proofs.Common.{◌≡◌, ℕ, List, sym, ap, ◌∙◌, Result}
use Rattle.signs.proofs.Results.{handed_on}
use Rattle.program.specs.Asking.{Validity}
use Rattle.program.specs.File.{sizes}
use Rattle.program.specs.Questions.{validity}
use Rattle.program.specs.declared.Refusal.{Refusal}
use Rattle.program.proofs.Laws.{sizes_length}
use Rattle.analysis.specs.Records.{record_width}
use Rattle.analysis.specs.Splitter.{split_by, split, split_numbers, split_row}
use Rattle.analysis.specs.declared.Split.{Split}
use Rattle.analysis.proofs.splitting.split.Goals as goal

-- the two clauses of the contract
both : (s : List ℕ) (place : ℕ) {v : Validity} {r : Result Split Refusal} → validity s ≡ v → r ≡ split_by v (record_width (sizes s)) place → record { value : r ≡ split s place; numbers : split_numbers r ≡ split_row s place }
unfolding split split_row
both s place e p =
    let q = p ∙ ap (λ (v : Validity). split_by v (record_width (sizes s)) place) (sym e) in
    record { value = q; numbers = ap split_numbers q }

pub returns : goal.returns
unfolding record_width split_by
returns c =
    both _ _ (sym c.validate.ensures.value ∙ c.in_ok-validate.was) (rw (c.split_by.ensures, c.name_count.ensures, sizes_length _))

pub returns-in_err-validate : goal.returns-in_err-validate
unfolding split_by
returns-in_err-validate c = both _ _ (sym c.validate.ensures.value ∙ c.in_err-validate.was) (handed_on _ c.from_residual.ensures.1)
