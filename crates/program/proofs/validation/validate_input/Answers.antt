-- `program::validation::validate_input` meets its contract.
use Prim.Native.Nat.{ℕ}
use lib.ListN.{length}
use mathlib.Core.List.{List}
use mathlib.Core.Path.{◌≡◌, ◌∙◌, ap, sym}
use native.Mathlib.Omega.{arith}
use Rattle.program.specs.Asking.{in_turn}
use Rattle.program.specs.Parts.Layouts.{heads_of}
use Rattle.program.specs.File.{field_head, initial_field, name_count}
use Rattle.program.specs.Questions.{head_validity, end_validity, input_validity, input_row}
use Rattle.program.specs.declared.Field.{Field}
use Rattle.program.specs.declared.FieldHeads.{FieldHeads}
use Rattle.program.proofs.Asking.{raised, passed, last_asked, numbered}
use Rattle.program.proofs.Fit.{laid_out, counts_allowed}
use Rattle.program.proofs.Reading.{laid_names, asked_head, asked_end}
use Rattle.program.proofs.validation.validate_input.Goals as goal
use Rattle.program.proofs.validation.validate_input.Goals.{After-check_end, After-check_head}

-- what stands at the start list's field
fifth : (s : List ℕ) {h : FieldHeads} → h ≡ heads_of s → h.initial ≡ field_head s 4
unfolding heads_of
fifth s e = ap (λ (h : FieldHeads). h.initial) e

-- questions 1 to 4 are asked of it
initial : (c : After-check_head) → c.check_head.result ≡ head_validity (length c.args.s.now) (field_head c.args.s.now 4) (initial_field (name_count c.args.s.now))
initial c =
    asked_head _ c.check_head.ensures (fifth _ c.heads-h.ensures) (c.initial_field.ensures ∙ ap initial_field (laid_names _ _ (c.layout_by-l.ensures _ c.heads-h.ensures)))

-- and question 5 after it
ended : (c : After-check_end) → c.check_end.result ≡ end_validity c.args.s.now 5
ended c = asked_end _ 4 c.check_end.ensures c.after.ensures (fifth _ c.heads-h.ensures)

pub returns-in_err-check_heads : goal.returns-in_err-check_heads
unfolding input_validity in_turn input_row
returns-in_err-check_heads c = numbered (raised _ _ c.check_heads.ensures c.from_residual.ensures.1 c.in_err-check_heads.was)

pub check_head-requires : goal.check_head-requires
unfolding initial_field
check_head-requires c =
    omega (arith, (counts_allowed _ (sym c.check_heads.ensures ∙ c.in_ok-check_heads.was)).some_name, laid_names _ _ (c.layout_by-l.ensures _ c.heads-h.ensures), ap (λ (x : Field). x.width) c.initial_field.ensures)

pub returns-in_err-check_head : goal.returns-in_err-check_head
unfolding input_validity in_turn input_row
returns-in_err-check_head c =
    numbered
    (passed (sym c.check_heads.ensures ∙ c.in_ok-check_heads.was)
    (raised _ _ (initial (goal.at.returns-in_err-check_head c).After-check_head) c.from_residual-in_err-check_head.ensures.1 c.in_err-check_head.was))

pub returns-in_err-check_end : goal.returns-in_err-check_end
unfolding input_validity in_turn input_row
returns-in_err-check_end c =
    let p = goal.at.returns-in_err-check_end c in
    numbered
    (passed (sym c.check_heads.ensures ∙ c.in_ok-check_heads.was)
    (passed (sym (initial p.After-check_head) ∙ c.in_ok-check_head.was)
    (raised _ _ (ended p.After-check_end) c.from_residual-in_err-check_end.ensures.1 c.in_err-check_end.was)))

pub invariant_of-script : goal.invariant_of-script
invariant_of-script c = record { laid_out = laid_out _ (sym c.check_heads.ensures ∙ c.in_ok-check_heads.was) _ (c.layout_by-l.ensures _ c.heads-h.ensures) }

pub returns : goal.returns
unfolding input_validity in_turn input_row
returns c =
    let p = goal.at.returns c in
    numbered
    (passed (sym c.check_heads.ensures ∙ c.in_ok-check_heads.was)
    (passed (sym (initial p.After-check_head) ∙ c.in_ok-check_head.was)
    (passed (sym (ended p.After-check_end) ∙ c.in_ok-check_end.was) (last_asked _ _ c.check_content.ensures))))
