-- `program::validation::Script::check_names` meets its contract.
use Prim.Native.Nat.{◌<◌}
use borrow.Author.Rules.{rules}
use mathlib.Core.Path.{sym, refl, ap, ◌∙◌, ◌≡◌}
use native.Mathlib.Numerals.{add-one}
use native.Mathlib.Omega.{arith}
use Rattle.program.specs.FirstSuch.{first_of}
use Rattle.program.specs.Asking.{ask_each}
use Rattle.program.specs.File.{name_count, name_offset, first_cell}
use Rattle.program.specs.Questions.{name_validity}
use Rattle.program.proofs.Asking.{each_raised, each_more}
use Rattle.program.proofs.Cells.{first_cell_zero, first_cell_suc}
use Rattle.program.proofs.Reading.{cells_few}
use Rattle.program.proofs.Reading.{laid_names}
use Rattle.program.proofs.validation.Script.check_names.Goals as goal
use Rattle.program.proofs.validation.Script.check_names.Goals.{After-ask}

pub loop-i-init : goal.loop-i-init
unfolding ask_each first_of
loop-i-init c = (sym (first_cell_zero _), search rules, refl)

pub overflow_add-total : goal.overflow_add-total
overflow_add-total c = omega (arith, c.cells_of-total.ensures, cells_few c.size_at-size.result (search rules))

-- what is asked in a turn is question 6 of the turn's name
asked : (c : After-ask) → c.ask.result ≡ name_validity c.args.self.bytes.now c.loop-i.i
unfolding name_validity name_offset first_cell
asked c =
    let s = c.args.self.bytes.now in
    let l = c.loop-i in
    let h : l.i < name_count s = omega (arith, laid_names _ _ c.args.self.laid_out.same) in
    rw (
      first_cell_suc s l.i h,
      ← l.invariant.0,
      ← c.size_at-size.ensures,
      ← c.cells_of-total.ensures,
      ← c.in_bounds.ensures,
    )
    c.ask.ensures

pub returns-in_err-ask : goal.returns-in_err-ask
returns-in_err-ask c =
    let l = c.loop-i in
    each_raised _ _ l.i (omega (arith, laid_names _ _ c.args.self.laid_out.same)) l.invariant.2 (asked (goal.at.returns-in_err-ask c).After-ask) c.from_residual.ensures.1 c.in_err-ask.was

pub loop-i-preserved : goal.loop-i-preserved
loop-i-preserved c =
    let l = c.loop-i in
    let s = c.args.self.bytes.now in
    let h : l.i < name_count s = omega (arith, laid_names _ _ c.args.self.laid_out.same) in (
      rw (add-one, first_cell_suc s l.i h, ← l.invariant.0, ← c.size_at-size.ensures, ← c.cells_of-total.ensures) refl,
      omega (arith, c.cells_of-total.ensures, cells_few c.size_at-size.result (search rules)),
      rw add-one (each_more _ l.i l.invariant.2 (asked (goal.at.loop-i-preserved c).After-ask) c.in_ok-ask.was),
    )

pub returns : goal.returns
returns c =
    let s = c.args.self.bytes.now in
    let l = c.loop-i in
    sym (ap (λ n. ask_each n (name_validity s)) (omega (arith, laid_names _ _ c.args.self.laid_out.same)) ∙ l.invariant.2)
