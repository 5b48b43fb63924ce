-- `class::ask_each`: every mark passed over is in the range.
use mathlib.Core.Path.{◌≡◌, refl}
use native.Mathlib.Numerals.{add-one}
use native.Mathlib.Omega.{arith}
use borrow.Author.Rules.{rules}
use lib.IntN.{pos}
use lib.ListN.{get_or}
use mir.Syntax.{w32}
use mir.ValLaws.{to_z-of_z}
use Rattle.program.proofs.Asking.{each_raised, each_more}
use Rattle.program.specs.Asking.{ask_each}
use Rattle.program.specs.FirstSuch.{first_of}
use Rattle.figures.specs.Figures.{mark_validity}
use Rattle.figures.proofs.class.ask_each.Goals as goal
use Rattle.figures.proofs.class.ask_each.Goals.{After-ask}

pub loop-i-init : goal.loop-i-init
unfolding ask_each first_of
loop-i-init c = refl

-- what is asked in a turn is question 24 of the turn's mark
asked : (c : After-ask) → c.ask.result ≡ mark_validity c.args.marks.now c.loop-i.i
unfolding mark_validity
asked c = rw (c.ask.ensures, c.in_range.ensures, to_z-of_z w32 (get_or c.args.marks.now c.loop-i.i (pos 0)) (search rules))

pub returns-in_err-ask : goal.returns-in_err-ask
returns-in_err-ask c =
    let l = c.loop-i in
    each_raised _ _ l.i (omega arith) l.invariant (asked (goal.at.returns-in_err-ask c).After-ask) c.from_residual.ensures.1 c.in_err-ask.was

pub loop-i-preserved : goal.loop-i-preserved
loop-i-preserved c =
    let l = c.loop-i in
    rw add-one (each_more _ l.i l.invariant (asked (goal.at.loop-i-preserved c).After-ask) c.in_ok-ask.was)
