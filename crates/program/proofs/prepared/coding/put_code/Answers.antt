-- `program::prepared::coding::put_code` meets its contract.
use mathlib.Core.Path.{ap, ◌∙◌}
use native.Mathlib.Omega.{arith}
use lib.ListN.{length}
use Rattle.program.specs.File.{span_of}
use Rattle.program.specs.declared.Table.TheVariants.{Arithmetic, Boolean}
use Rattle.program.proofs.Codes.{code_laid}
use Rattle.program.proofs.Fit.{counts, span_whole}
use Rattle.program.proofs.Reading.{laid_names, laid_count}
use Rattle.program.proofs.prepared.coding.put_code.Goals as goal

pub put_table-requires : goal.put_table-requires
unfolding span_of
put_table-requires c =
    let s = c.args.program.now in
    (span_whole s c.requires.0 _ c.requires.1 Arithmetic, omega (arith, laid_count s _ c.requires.1 Arithmetic, (counts s c.requires.0).arithmetic))

pub put_table-requires-2 : goal.put_table-requires-2
unfolding span_of
put_table-requires-2 c =
    let s = c.args.program.now in
    (span_whole s c.requires.0 _ c.requires.1 Boolean, omega (arith, c.put_table.ensures.size, laid_count s _ c.requires.1 Boolean, (counts s c.requires.0).boolean))

pub put_names-requires : goal.put_names-requires
put_names-requires c =
    (c.requires.0, laid_names _ _ c.requires.1, c.put_table-2.ensures.size ∙ c.put_table.ensures.size ∙ ap length c.requires.2)

pub put_cells-requires : goal.put_cells-requires
unfolding span_of
put_cells-requires c =
    let s = c.args.program.now in
    (omega (arith, laid_count s _ c.requires.1 Arithmetic, (counts s c.requires.0).arithmetic), c.put_names.ensures.put.long)

pub returns : goal.returns
returns c =
    code_laid _ c.requires.0 _ c.requires.1 _ _ _ _ (rw c.requires.2 at c.put_table.ensures) c.put_table-2.ensures c.put_names.ensures c.put_cells.ensures
