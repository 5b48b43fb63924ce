-- `evaluator::indexed`: a fault is handed on, then the index is tested below and above.
use mathlib.Core.Path.{◌≡◌, subst}
use mathlib.Core.Bool.{Bool, false}
use lib.IntN.{ℤ, pos}
use lib.Signed.{lt_z}
use mir.Facts.{sfits_lit}
use mir.Syntax.{w32}
use Rattle.signs.proofs.Signed.{less}
use Rattle.semantics.proofs.Coded.{is_fault, tested, not_below, index_fault, index_negative, index_large, index_inside}
use Rattle.semantics.proofs.evaluator.indexed.Goals as goal
use Rattle.semantics.proofs.evaluator.indexed.Goals.{Else-is_fault, Else-unpacked-lt0}

pub returns-then-is_fault : goal.returns-then-is_fault
returns-then-is_fault c = index_fault _ c.args.v (tested c.is_fault.ensures c.if-is_fault.true)

sign_of : {x z : ℤ} {b : Bool} → x ≡ z → lt_z x (pos 0) ≡ b → lt_z z (pos 0) ≡ b
sign_of {b = b} e h = subst (λ (y : ℤ). lt_z y (pos 0) ≡ b) e h

-- the index is no fault, and then not below zero
no_fault : (c : Else-is_fault) → is_fault c.args.v ≡ false
no_fault c = tested c.is_fault.ensures c.if-is_fault.false

pub unpacked-requires : goal.unpacked-requires
unpacked-requires c = no_fault (goal.at.unpacked-requires c).Else-is_fault

not_negative : (c : Else-unpacked-lt0) → lt_z c.args.v (pos 0) ≡ false
not_negative c = sign_of c.unpacked.ensures (less w32 c.unpacked.result (pos 0) (record { sfits = c.unpacked.type_inv }) (sfits_lit tt) c.if-unpacked-lt0.false)

pub index-requires : goal.index-requires
index-requires c = not_below _ (not_negative (goal.at.index-requires c).Else-unpacked-lt0)

pub returns-then-unpacked-lt0 : goal.returns-then-unpacked-lt0
returns-then-unpacked-lt0 c =
    let below = sign_of c.unpacked.ensures (less w32 c.unpacked.result (pos 0) (record { sfits = c.unpacked.type_inv }) (sfits_lit tt) c.if-unpacked-lt0.true) in
    index_negative _ c.args.v (no_fault (goal.at.returns-then-unpacked-lt0 c).Else-is_fault) below _ c.fault.ensures.evaluated

pub returns-then-size-index : goal.returns-then-size-index
returns-then-size-index c =
    index_large _ c.args.v (no_fault (goal.at.returns-then-size-index c).Else-is_fault) (not_negative (goal.at.returns-then-size-index c).Else-unpacked-lt0) (rw c.index.ensures at c.if-size-index.true) _ c.fault-then-size-index.ensures.evaluated

pub returns : goal.returns
returns c =
    index_inside _ c.args.v (no_fault (goal.at.returns c).Else-is_fault) (not_negative (goal.at.returns c).Else-unpacked-lt0) (rw c.index.ensures at c.if-size-index.false)
