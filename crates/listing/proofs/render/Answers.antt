-- `render`: the room is enough for any text.
use borrow.Author.Rules.{rules}
use mathlib.Core.Path.{◌≡◌, sym, ap, ◌∙◌}
use Prim.Native.Nat.{◌≤◌}
use native.Mathlib.Omega.{arith}
use lib.ListN.{length}
use Rattle.analysis.specs.Sheet.{refusal_line}
use Rattle.listing.specs.Text.{line_text, printed_text}
use Rattle.listing.proofs.Placing.{put_over}
use Rattle.listing.proofs.Printed.{input_refused, text_short}
use Rattle.listing.proofs.render.Goals as goal
use Rattle.listing.proofs.render.Goals.{In-Err}

pub render_fit-requires : goal.render_fit-requires
render_fit-requires c =
    let long : 300000 ≤ length c.args.out.now = search rules in
    (sym c.validate_input-v.ensures.value ∙ c.in-Ok.is, record { fits = omega (arith, text_short c.args.input.now) })

-- the text of a refusal by the file's questions
refused : (c : In-Err) → printed_text c.args.input.now ≡ line_text (refusal_line c.in-Err.x)
refused c = input_refused _ _ (sym c.validate_input-v.ensures.value ∙ c.in-Err.is)

pub put_refusal-requires : goal.put_refusal-requires
put_refusal-requires c =
    let long : 300000 ≤ length c.args.out.now = search rules in
    record { fits = omega (arith, text_short c.args.input.now, ap length (refused (goal.at.put_refusal-requires c).In-Err)) }

pub returns-in-Ok : goal.returns-in-Ok
returns-in-Ok c = put_over c.render_fit.ensures

pub returns-in-Err : goal.returns-in-Err
returns-in-Err c = rw (refused (goal.at.returns-in-Err c).In-Err) (put_over c.put_refusal.ensures)
