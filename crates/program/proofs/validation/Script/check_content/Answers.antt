-- `program::validation::Script::check_content` meets its contract.
use mathlib.Core.Path.{◌≡◌, sym, ◌∙◌, ap}
use mathlib.Core.List.{List, [], ◌∷◌}
use Prim.Native.Nat.{ℕ}
use Rattle.program.specs.Asking.{then_ask, in_turn, ask_each}
use Rattle.program.specs.File.{name_count}
use Rattle.program.specs.Questions.{name_validity, table_validity, uses_validity, jumps_validity, content_validity}
use Rattle.program.specs.declared.Table.TheVariants.{Arithmetic, Boolean, Commands}
use Rattle.program.proofs.Asking.{raised, passed, turn_last}
use Rattle.program.proofs.validation.Script.check_content.Goals as goal

-- the questions of the names, then 7 to 11, then 20
in_parts : (s : List ℕ)
    → content_validity s
    ≡ then_ask (ask_each (name_count s) (name_validity s))
    (then_ask (in_turn (table_validity s Arithmetic ∷ table_validity s Boolean ∷ table_validity s Commands ∷ uses_validity s ∷ [])) (jumps_validity s))
unfolding content_validity in_turn
in_parts s = ap (then_ask (ask_each (name_count s) (name_validity s))) (turn_last (table_validity s Arithmetic ∷ table_validity s Boolean ∷ table_validity s Commands ∷ uses_validity s ∷ []) (jumps_validity s))

pub returns-in_err-check_names : goal.returns-in_err-check_names
returns-in_err-check_names c = raised _ _ c.check_names.ensures c.from_residual.ensures.1 c.in_err-check_names.was ∙ sym (in_parts _)

pub returns-in_err-check_entries : goal.returns-in_err-check_entries
returns-in_err-check_entries c =
    passed (sym c.check_names.ensures ∙ c.in_ok-check_names.was)
    (raised _ _ c.check_entries.ensures.valid c.from_residual-in_err-check_entries.ensures.1 c.in_err-check_entries.was)
    ∙ sym (in_parts _)

pub returns : goal.returns
returns c =
    passed (sym c.check_names.ensures ∙ c.in_ok-check_names.was)
    (passed (sym c.check_entries.ensures.valid ∙ c.in_ok-check_entries.was) c.check_jumps.ensures)
    ∙ sym (in_parts _)
