-- `program::prepared::coding::put_names` meets its contract.
use borrow.Author.Rules.{rules}
use Prim.Native.Nat.{◌<◌, ◌≤◌, ◌+◌}
use mathlib.Core.Path.{◌≡◌, refl, sym, ◌∙◌, ap}
use native.Mathlib.Nat.{le_refl}
use native.Mathlib.Numerals.{add-one}
use native.Mathlib.Omega.{arith}
use Rattle.program.specs.File.{name_count, sizes, cells_of, first_cell}
use Rattle.program.proofs.Cells.{first_cell_zero, first_cell_suc, first_cell_past, size_at_lem}
use Rattle.program.proofs.Codes.{name_room, names_none, names_next, names_done}
use Rattle.program.proofs.Fit.{counts}
use Rattle.program.proofs.prepared.coding.put_names.Goals as goal
use Rattle.program.proofs.prepared.coding.put_names.Goals.{After-cells_of-total}

pub loop-i-init : goal.loop-i-init
loop-i-init c = record { few = omega (arith, c.requires.1, (counts _ c.requires.0).names); small = omega arith; cells = sym (first_cell_zero _); put = names_none _ _ c.requires.2 }

-- the loop's sum for a name
summed : (c : After-cells_of-total) → c.loop-i.total + c.cells_of-total.result ≤ 512
summed c = omega (arith, name_room _ c.requires.0 c.loop-i.i (omega (arith, c.requires.1)), c.loop-i.invariant.cells, c.cells_of-total.ensures, ap cells_of c.size_at-size.ensures)

pub overflow_add-total : goal.overflow_add-total
overflow_add-total c = record { fits = omega (arith, summed (goal.at.overflow_add-total c).After-cells_of-total) }

pub loop-i-preserved : goal.loop-i-preserved
loop-i-preserved c =
    let l = c.loop-i in
    let s = c.args.program.now in
    let there : l.i < name_count s = omega (arith, c.requires.1) in
    record {
      few = l.invariant.few;
      small = summed (goal.at.loop-i-preserved c).After-cells_of-total;
      cells = rw (add-one, first_cell_suc s l.i there) (cc);
      put = names_next _ _ l.i _ _ (search rules) (c.size_at-size.ensures ∙ sym (size_at_lem s l.i there)) l.invariant.cells refl l.invariant.put;
    }

pub returns : goal.returns
returns c =
    let l = c.loop-i in
    let s = c.args.program.now in
    let all : l.i ≡ name_count s = omega (arith, c.requires.1) in
    names_done _ _ _ _ (counts s c.requires.0).names (l.invariant.cells ∙ ap (first_cell (sizes s)) all ∙ first_cell_past s _ (le_refl _)) c.requires.1 (rw (← all) l.invariant.put)
