-- `program::file::fit_layout` meets its contract.
use native.Mathlib.Omega.{arith}
use Prim.Native.Nat.{◌+◌}
use Rattle.program.specs.File.{names_field, table_field, layout_of}
use Rattle.program.specs.declared.Table.TheVariants.{Arithmetic, Boolean, Commands}
use Rattle.program.proofs.Fit.{first_starts}
use Rattle.program.proofs.Heads.{StartsAt, length_there, span_from, next_from}
use Rattle.program.proofs.file.fit_layout.Goals as goal
use Rattle.program.proofs.file.fit_layout.Goals.{After-whole_word-names, After-whole_word-arithmetic, After-whole_word-boolean}

-- where the fields after the first start
second : (c : After-whole_word-names) → StartsAt c.args.s.now 1 (3 + c.whole_word-names.result)
second c = next_from (first_starts _ c.requires) (omega arith) c.whole_word-names.ensures

third : (c : After-whole_word-arithmetic) → StartsAt c.args.s.now 1 (3 + c.whole_word-names.result) → StartsAt c.args.s.now 2 (3 + c.whole_word-names.result + 3 + c.whole_word-arithmetic.result)
third c before = next_from before (omega arith) c.whole_word-arithmetic.ensures

fourth : (c : After-whole_word-boolean)
    → StartsAt c.args.s.now 2 (3 + c.whole_word-names.result + 3 + c.whole_word-arithmetic.result)
    → StartsAt c.args.s.now 3 (3 + c.whole_word-names.result + 3 + c.whole_word-arithmetic.result + 3 + c.whole_word-boolean.result)
fourth c before = next_from before (omega arith) c.whole_word-boolean.ensures

pub returns : goal.returns
unfolding layout_of names_field table_field
returns c =
    let p = goal.at.returns c in
    let two = second p.After-whole_word-names in
    let three = third p.After-whole_word-arithmetic two in
    λ i.
    record {
      names = span_from (first_starts _ c.requires) names_field c.whole_word-names.ensures i;
      arithmetic = span_from two (table_field Arithmetic) c.whole_word-arithmetic.ensures i;
      boolean = span_from three (table_field Boolean) c.whole_word-boolean.ensures i;
      commands = span_from (fourth p.After-whole_word-boolean three) (table_field Commands) c.whole_word-commands.ensures i;
    }

pub whole_word-names-requires : goal.whole_word-names-requires
whole_word-names-requires c =
    length_there (first_starts _ c.requires)

pub whole_word-arithmetic-requires : goal.whole_word-arithmetic-requires
whole_word-arithmetic-requires c =
    length_there (second (goal.at.whole_word-arithmetic-requires c).After-whole_word-names)

pub whole_word-boolean-requires : goal.whole_word-boolean-requires
whole_word-boolean-requires c =
    let p = goal.at.whole_word-boolean-requires c in
    length_there (third p.After-whole_word-arithmetic (second p.After-whole_word-names))

pub whole_word-commands-requires : goal.whole_word-commands-requires
whole_word-commands-requires c =
    let p = goal.at.whole_word-commands-requires c in
    length_there (fourth p.After-whole_word-boolean (third p.After-whole_word-arithmetic (second p.After-whole_word-names)))
