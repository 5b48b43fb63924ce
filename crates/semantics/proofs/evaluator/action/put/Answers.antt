-- `evaluator::action::put`: a fault, or a number of 32 bits, stored where there is a cell.
use mathlib.Core.Path.{◌≡◌, refl, sym, ap}
use mathlib.Core.Bool.{false}
use lib.ListN.{set}
use lib.Seq.{set_out}
use Rattle.semantics.specs.Action.{store_to, after, is_defined}
use Rattle.semantics.proofs.Coded.{is_fault, tested, passed, fault_evaluated, number_evaluated}
use Rattle.semantics.proofs.evaluator.action.put.Goals as goal
use Rattle.semantics.proofs.evaluator.action.put.Goals.{Else-is_fault}

pub returns-then-is_fault : goal.returns-then-is_fault
unfolding store_to after is_defined
returns-then-is_fault c =
    rw (fault_evaluated c.args.v (tested c.is_fault.ensures c.if-is_fault.true)) record { defined = refl; memory = refl }

no_fault : (c : Else-is_fault) → is_fault c.args.v ≡ false
no_fault c = tested c.is_fault.ensures c.if-is_fault.false

pub unpacked-requires : goal.unpacked-requires
unpacked-requires c = no_fault (goal.at.unpacked-requires c).Else-is_fault

pub returns-then-c-memory : goal.returns-then-c-memory
unfolding store_to after is_defined
returns-then-c-memory c =
    rw (number_evaluated c.args.v (no_fault (goal.at.returns-then-c-memory c).Else-is_fault)) record { defined = refl; memory = ap (set c.args.memory.now c.args.c) (passed c.unpacked.result c.unpacked.type_inv c.unpacked.ensures) }

pub returns-else-c-memory : goal.returns-else-c-memory
unfolding store_to after is_defined
returns-else-c-memory c =
    rw (number_evaluated c.args.v (no_fault (goal.at.returns-else-c-memory c).Else-is_fault)) record { defined = refl; memory = sym (set_out c.args.memory.now c.args.c _ c.if-c-memory.false) }
