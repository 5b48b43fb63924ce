-- `program::validation::Script::check_entries` meets its contract.
use mathlib.Core.Path.{sym, ◌∙◌}
use Rattle.program.specs.Asking.{in_turn}
use Rattle.program.specs.File.{entry_count}
use Rattle.program.specs.Parts.Counting.{UsesIn}
use Rattle.program.specs.Parts.Jumping.{NotedTo}
use Rattle.program.specs.declared.Table.TheVariants.{Commands}
use Rattle.program.proofs.Asking.{raised, unanswered, passed, last_asked}
use Rattle.program.proofs.Counting.{counted_all}
use Rattle.program.proofs.Noting.{noted_then}
use Rattle.program.proofs.validation.Script.check_entries.Goals as goal
use Rattle.program.proofs.validation.Script.check_entries.Goals.{In_ok-check_table-3}

-- the operands of all three tables are counted, and it is noted whether a command may be a jump
all_counted : (c : In_ok-check_table-3) → UsesIn c.args.self.bytes.now c.check_table-3.new.uses
all_counted c =
    counted_all _ _ _ _ (c.check_table.ensures.checked.counted c.in_ok-check_table.was) (c.check_table-2.ensures.checked.counted c.in_ok-check_table-2.was)
    (c.check_table-3.ensures.checked.counted c.in_ok-check_table-3.was)

all_noted : (c : In_ok-check_table-3) → NotedTo c.args.self.bytes.now Commands (entry_count c.args.self.bytes.now Commands) c.args.jumps.now c.check_table-3.new.jumps
all_noted c =
    noted_then
    (noted_then (c.check_table.ensures.noted c.in_ok-check_table.was) (c.check_table-2.ensures.noted c.in_ok-check_table-2.was))
    (c.check_table-3.ensures.noted c.in_ok-check_table-3.was)

pub returns-in_err-check_table : goal.returns-in_err-check_table
unfolding in_turn
returns-in_err-check_table c =
    let h = c.from_residual.ensures.1 in
    record { valid = raised _ _ c.check_table.ensures.checked.valid h c.in_err-check_table.was; noted = unanswered _ _ h }

pub returns-in_err-check_table-2 : goal.returns-in_err-check_table-2
unfolding in_turn
returns-in_err-check_table-2 c =
    let h = c.from_residual-in_err-check_table-2.ensures.1 in
    record {
      valid = passed (sym c.check_table.ensures.checked.valid ∙ c.in_ok-check_table.was) (raised _ _ c.check_table-2.ensures.checked.valid h c.in_err-check_table-2.was);
      noted = unanswered _ _ h;
    }

pub returns-in_err-check_table-3 : goal.returns-in_err-check_table-3
unfolding in_turn
returns-in_err-check_table-3 c =
    let h = c.from_residual-in_err-check_table-3.ensures.1 in
    record {
      valid = passed (sym c.check_table.ensures.checked.valid ∙ c.in_ok-check_table.was)
          (passed (sym c.check_table-2.ensures.checked.valid ∙ c.in_ok-check_table-2.was) (raised _ _ c.check_table-3.ensures.checked.valid h c.in_err-check_table-3.was));
      noted = unanswered _ _ h;
    }

pub check_all_uses-requires : goal.check_all_uses-requires
check_all_uses-requires c = all_counted (goal.at.check_all_uses-requires c).In_ok-check_table-3

pub returns : goal.returns
unfolding in_turn
returns c =
    record {
      valid = passed (sym c.check_table.ensures.checked.valid ∙ c.in_ok-check_table.was)
          (passed (sym c.check_table-2.ensures.checked.valid ∙ c.in_ok-check_table-2.was)
          (passed (sym c.check_table-3.ensures.checked.valid ∙ c.in_ok-check_table-3.was) (last_asked _ _ c.check_all_uses.ensures)));
      noted = λ fit. all_noted (goal.at.returns c).In_ok-check_table-3;
    }
