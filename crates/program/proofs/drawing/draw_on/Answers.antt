-- `program::drawing::draw_on` meets its contract.
use Rattle.std.specs.Prelude.{Err}
use mathlib.Core.Path.{◌≡◌, ap, sym, ◌∙◌, refl}
use Rattle.program.specs.Drawing.{drawn, drawn_by, drawn_buffer, drawn_buffer_by, drawn_numbers, drawing_row}
use Rattle.program.specs.Questions.{validity}
use Rattle.signs.proofs.Results.{handed_on}
use Rattle.program.proofs.Drawings.{unfit}
use Rattle.program.proofs.drawing.draw_on.Goals as goal

pub returns-in_err-validate : goal.returns-in_err-validate
unfolding drawing_row drawn drawn_by drawn_buffer drawn_buffer_by
returns-in_err-validate c =
    let told : validity c.args.s.now ≡ Err _ = sym c.validate.ensures.value ∙ c.in_err-validate.was in
    rw (unfit c.args.construction c.args.s.now c.args.buffer.now told)
    (let same = handed_on c.from_residual.result c.from_residual.ensures.1 in record { value = (same, refl); numbers = ap drawn_numbers same })

pub draw_fit-requires : goal.draw_fit-requires
draw_fit-requires c = sym c.validate.ensures.value ∙ c.in_ok-validate.was

pub returns : goal.returns
unfolding drawing_row
returns c =
    let made = c.draw_fit.ensures in
    record { value = made; numbers = ap drawn_numbers made.0 }
