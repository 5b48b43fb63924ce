-- `pizwoter_input_parts`: too short, or by the answer's cases. The parts of a fit input are short.
use Rattle.std.specs.Prelude.{Ok}
use Prim.Native.Nat.{◌+◌}
use mathlib.Core.Path.{◌≡◌, refl, sym, ◌∙◌}
use mathlib.Core.List.{[], ◌∷◌, map}
use native.Mathlib.Omega.{arith}
use lib.IntN.{pos}
use lib.ListN.{length}
use Rattle.program.specs.Questions.{input_validity, input_row}
use Rattle.desk.specs.Rows.{parts}
use Rattle.desk.proofs.Heads.{parts_fit_head, parts_head}
use Rattle.desk.proofs.Parts.{program_short, initial_short}
use Rattle.desk.proofs.Places.{input_narrow}
use Rattle.desk.proofs.Replies.{short_told, told_by}
use Rattle.desk.proofs.files.pizwoter_input_parts.Goals as goal
use Rattle.desk.proofs.files.pizwoter_input_parts.Goals.{In-Ok}

pub returns-then-reply-lt-PARTS : goal.returns-then-reply-lt-PARTS
returns-then-reply-lt-PARTS c = short_told _ _ (omega (arith, c.if-reply-lt-PARTS.true)) _

-- the input is fit
fit : (c : In-Ok) → input_validity c.args.input.now ≡ Ok tt
fit c = sym c.validate_input.ensures.value ∙ c.in-Ok.is

pub overflow_cast-program : goal.overflow_cast-program
overflow_cast-program c = record { fits = omega (arith, program_short _ (fit (goal.at.overflow_cast-program c).In-Ok) c.program_part.ensures) }

pub overflow_cast-initial : goal.overflow_cast-initial
overflow_cast-initial c = record { fits = omega (arith, initial_short _ (fit (goal.at.overflow_cast-initial c).In-Ok) c.initial_part.ensures) }

pub overflow_add-program : goal.overflow_add-program
overflow_add-program c = record { fits = omega (arith, program_short _ (fit (goal.at.overflow_add-program c).In-Ok) c.program_part.ensures) }

pub refused-requires : goal.refused-requires
refused-requires c = input_narrow _ c.validate_input.ensures.value _ c.in-Err.is

pub returns-in-Ok : goal.returns-in-Ok
unfolding parts input_row
returns-in-Ok c =
    told_by (omega (arith, c.if-reply-lt-PARTS.false)) (map pos (length c.program_part.result.now ∷ (length c.program_part.result.now + 3) ∷ length c.initial_part.result.now ∷ [])) c.put.type_inv
    (rw (fit (goal.at.returns-in-Ok c).In-Ok, c.program_part.ensures, c.initial_part.ensures) (parts_fit_head _ _)) refl c.put.ensures

pub returns-in-Err : goal.returns-in-Err
unfolding parts input_row
returns-in-Err c =
    told_by (omega (arith, c.if-reply-lt-PARTS.false)) (map pos (0 ∷ 0 ∷ 0 ∷ [])) c.put-in-Err.type_inv
    (rw (sym c.validate_input.ensures.value ∙ c.in-Err.is) (parts_head _ _ _)) c.refused.ensures c.put-in-Err.ensures
