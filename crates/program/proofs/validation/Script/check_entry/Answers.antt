-- `program::validation::Script::check_entry` meets its contract.
use Prim.Native.Nat.{◌+◌, ◌*◌}
use mathlib.Core.Path.{◌≡◌, refl, ◌∙◌, ap}
use native.Mathlib.Omega.{arith}
use Rattle.program.specs.Parts.Checking.{Standing}
use Rattle.program.specs.Parts.Jumping.{may_jump}
use Rattle.program.specs.File.{table_start}
use Rattle.program.specs.declared.Table.{Table}
use Rattle.program.proofs.Reading.{laid_start, entry_in, entry_read}
use Rattle.program.proofs.validation.Script.check_entry.Goals as goal
use Rattle.program.proofs.validation.Script.check_entry.Goals.{After-entry_at-e}

-- what is read is the entry, and it stands there
standing : (c : After-entry_at-e) {t : Table} → c.args.table ≡ t → Standing c.args.self.bytes.now t c.args.n c.entry_at-e.result (c.args.start + 7 * c.args.n)
standing c e =
    let start = c.requires ∙ ap (table_start c.args.self.bytes.now) e in
    record {
      read = entry_read _ _ _ _ _ c.entry_at-e.ensures start refl;
      place = entry_in _ _ _ _ _ start refl;
    }

pub overflow_add-at : goal.overflow_add-at
overflow_add-at c = record { fits = omega (arith, c.args.self.laid_out.inside c.args.table, laid_start _ _ c.args.self.laid_out.same c.args.table) }

pub check_arithmetic-requires : goal.check_arithmetic-requires
check_arithmetic-requires c = standing (goal.at.check_arithmetic-requires c).After-entry_at-e c.in-Arithmetic.is

pub check_boolean-requires : goal.check_boolean-requires
check_boolean-requires c = standing (goal.at.check_boolean-requires c).After-entry_at-e c.in-Boolean.is

pub check_command-requires : goal.check_command-requires
check_command-requires c = standing (goal.at.check_command-requires c).After-entry_at-e c.in-Commands.is

pub returns-in-Arithmetic : goal.returns-in-Arithmetic
unfolding may_jump
returns-in-Arithmetic c = rw c.in-Arithmetic.is (record { checked = c.check_arithmetic.ensures; noted = record { clear = λ e. (e, refl) } })

pub returns-in-Boolean : goal.returns-in-Boolean
unfolding may_jump
returns-in-Boolean c = rw c.in-Boolean.is (record { checked = c.check_boolean.ensures; noted = record { clear = λ e. (e, refl) } })

pub returns-in-Commands : goal.returns-in-Commands
unfolding may_jump
returns-in-Commands c =
    let told = c.in-Commands.is in
    let here = standing (goal.at.returns-in-Commands c).After-entry_at-e told in
    rw told (record { checked = c.check_command.ensures; noted = rw here.read at c.note.ensures })
