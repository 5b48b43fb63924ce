-- `evaluator::compare`: the earlier fault, else the comparison of two numbers of 32 bits.
use Rattle.std.specs.Prelude.{Ok}
use mathlib.Core.Path.{◌≡◌, sym, ap, ◌∙◌}
use mathlib.Core.Bool.{false}
use Rattle.semantics.proofs.Coded.{is_fault, tested_as, passed, compare_fault, no_faults, compare_both}
use Rattle.semantics.proofs.evaluator.compare.Goals as goal
use Rattle.semantics.proofs.evaluator.compare.Goals.{Else-is_fault}

pub returns-then-is_fault : goal.returns-then-is_fault
returns-then-is_fault c =
    rw c.earlier-first.ensures
    (compare_fault _ _ (tested_as c.earlier-first.ensures c.is_fault.ensures c.if-is_fault.true) c.args.c)

-- neither is a fault
none : (c : Else-is_fault) → (is_fault c.args.a ≡ false) × (is_fault c.args.b ≡ false)
none c = no_faults _ _ (tested_as c.earlier-first.ensures c.is_fault.ensures c.if-is_fault.false)

pub unpacked-requires : goal.unpacked-requires
unpacked-requires c = (none (goal.at.unpacked-requires c).Else-is_fault).0

pub unpacked-requires-2 : goal.unpacked-requires-2
unpacked-requires-2 c = (none (goal.at.unpacked-requires-2 c).Else-is_fault).1

pub returns : goal.returns
returns c =
    c.truth.ensures
    ∙ ap Ok (c.compares.ensures ∙ rw (passed c.unpacked.result c.unpacked.type_inv c.unpacked.ensures, passed c.unpacked-2.result c.unpacked-2.type_inv c.unpacked-2.ensures))
    ∙ sym (compare_both c.args.a c.args.b (none (goal.at.returns c).Else-is_fault).0 (none (goal.at.returns c).Else-is_fault).1 c.args.c)
