-- `program::validation::check_heads` meets its contract.
use mathlib.Core.Path.{◌≡◌, ap, sym, ◌∙◌}
use lib.ListN.{length}
use Rattle.program.specs.Parts.Layouts.{heads_of}
use Rattle.program.specs.File.{names_field, table_field, program_fields, field_head}
use Rattle.program.specs.Questions.{head_validity, heads_validity}
use Rattle.program.specs.declared.FieldHeads.{FieldHeads}
use Rattle.program.specs.declared.Table.TheVariants.{Arithmetic, Boolean, Commands}
use Rattle.program.proofs.Asking.{raised, passed, last_asked}
use Rattle.program.proofs.Reading.{names_wide, table_wide, asked_head}
use Rattle.program.proofs.validation.check_heads.Goals as goal
use Rattle.program.proofs.validation.check_heads.Goals.{After-check_head, After-check_head-2, After-check_head-3, After-check_head-4}

-- what each field is asked
first : (c : After-check_head) → c.check_head.result ≡ head_validity (length c.args.s.now) (field_head c.args.s.now 0) names_field
unfolding heads_of
first c = asked_head _ c.check_head.ensures (ap (λ (h : FieldHeads). h.names) c.requires) c.names_field.ensures

second : (c : After-check_head-2) → c.check_head-2.result ≡ head_validity (length c.args.s.now) (field_head c.args.s.now 1) (table_field Arithmetic)
unfolding heads_of
second c = asked_head _ c.check_head-2.ensures (ap (λ (h : FieldHeads). h.arithmetic) c.requires) c.table_field.ensures

third : (c : After-check_head-3) → c.check_head-3.result ≡ head_validity (length c.args.s.now) (field_head c.args.s.now 2) (table_field Boolean)
unfolding heads_of
third c = asked_head _ c.check_head-3.ensures (ap (λ (h : FieldHeads). h.boolean) c.requires) c.table_field-2.ensures

fourth : (c : After-check_head-4) → c.check_head-4.result ≡ head_validity (length c.args.s.now) (field_head c.args.s.now 3) (table_field Commands)
unfolding heads_of
fourth c = asked_head _ c.check_head-4.ensures (ap (λ (h : FieldHeads). h.commands) c.requires) c.table_field-3.ensures

pub check_head-requires : goal.check_head-requires
check_head-requires c = names_wide c.names_field.ensures

pub returns-in_err-check_head : goal.returns-in_err-check_head
unfolding heads_validity program_fields
returns-in_err-check_head c = raised _ _ (first (goal.at.returns-in_err-check_head c).After-check_head) c.from_residual.ensures.1 c.in_err-check_head.was

pub check_head-requires-2 : goal.check_head-requires-2
check_head-requires-2 c = table_wide _ c.table_field.ensures

pub returns-in_err-check_head-2 : goal.returns-in_err-check_head-2
unfolding heads_validity program_fields
returns-in_err-check_head-2 c =
    let p = goal.at.returns-in_err-check_head-2 c in
    passed (sym (first p.After-check_head) ∙ c.in_ok-check_head.was)
    (raised _ _ (second p.After-check_head-2) c.from_residual-in_err-check_head-2.ensures.1 c.in_err-check_head-2.was)

pub check_head-requires-3 : goal.check_head-requires-3
check_head-requires-3 c = table_wide _ c.table_field-2.ensures

pub returns-in_err-check_head-3 : goal.returns-in_err-check_head-3
unfolding heads_validity program_fields
returns-in_err-check_head-3 c =
    let p = goal.at.returns-in_err-check_head-3 c in
    passed (sym (first p.After-check_head) ∙ c.in_ok-check_head.was)
    (passed (sym (second p.After-check_head-2) ∙ c.in_ok-check_head-2.was)
    (raised _ _ (third p.After-check_head-3) c.from_residual-in_err-check_head-3.ensures.1 c.in_err-check_head-3.was))

pub check_head-requires-4 : goal.check_head-requires-4
check_head-requires-4 c = table_wide _ c.table_field-3.ensures

pub returns : goal.returns
unfolding heads_validity program_fields
returns c =
    let p = goal.at.returns c in
    passed (sym (first p.After-check_head) ∙ c.in_ok-check_head.was)
    (passed (sym (second p.After-check_head-2) ∙ c.in_ok-check_head-2.was)
    (passed (sym (third p.After-check_head-3) ∙ c.in_ok-check_head-3.was) (last_asked _ _ (fourth p.After-check_head-4))))
