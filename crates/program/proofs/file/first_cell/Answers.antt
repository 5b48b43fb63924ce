-- `program::file::first_cell` meets its contract.
use Prim.Native.Nat.{◌<◌}
use borrow.Author.Rules.{rules}
use mathlib.Core.Path.{sym, ◌∙◌, ap}
use native.Mathlib.Numerals.{add-one}
use native.Mathlib.Omega.{arith}
use Rattle.program.specs.File.{name_count, sizes, first_cell}
use Rattle.program.proofs.Cells.{first_cell_min, first_cell_zero, first_cell_suc}
use Rattle.program.proofs.Reading.{cells_few}
use Rattle.program.proofs.file.first_cell.Goals as goal

pub loop-k-init : goal.loop-k-init
loop-k-init c = (sym (first_cell_zero _), search rules)

pub overflow_add-total : goal.overflow_add-total
overflow_add-total c = omega (arith, c.cells_of-total.ensures, cells_few c.size_at.result (search rules))

pub loop-k-preserved : goal.loop-k-preserved
loop-k-preserved c =
    let l = c.loop-k in
    let s = c.args.s.now in
    let h : l.k < name_count s = omega (arith, c.name_count.ensures) in
    (rw (add-one, first_cell_suc s l.k h) (cc), omega (arith, c.cells_of-total.ensures, cells_few c.size_at.result (search rules)))

pub returns : goal.returns
returns c =
    let a = c.args in
    let s = a.s.now in
    c.loop-k.invariant.0
    ∙ ap (first_cell (sizes s)) (omega (arith, c.name_count.ensures))
    ∙ first_cell_min s a.i
