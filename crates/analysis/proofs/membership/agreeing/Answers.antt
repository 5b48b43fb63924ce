-- `membership::agreeing`: the loop counts the bytes that agree.
use Rattle.std.proofs.Common.{◌≡◌, ◌+◌, ◌-◌, ◌≤◌, eqb, get_or, take, drop, refl, ap, ◌∙◌, add-one, arith, length-take-le, length-drop, rules}
use mir.Val.{bool_byte}
use Rattle.analysis.specs.Parts.Membership as spec
use Rattle.analysis.proofs.Hashes.{bit_small}
use Rattle.analysis.proofs.membership.agreeing.Goals as goal
use Rattle.analysis.proofs.membership.agreeing.Goals.{In-loop-i}

pub loop-i-init : goal.loop-i-init
unfolding spec.agreeing
loop-i-init c = (refl, search rules)

-- one byte more
bit : (c : In-loop-i)
    → let a = c.args in bool_byte (eqb (get_or (take (a.at + a.names - a.at) (drop a.at a.bytes.now)) c.loop-i.i 0) (get_or a.rho.now c.loop-i.i 0)) ≤ 1
bit c = bit_small _

pub loop-i-preserved : goal.loop-i-preserved
unfolding spec.agreeing
loop-i-preserved c =
    let a = c.args in
    let e : a.at + a.names - a.at ≡ a.names = omega arith in
    (rw (add-one, c.loop-i.invariant.0, e) refl, omega (arith, bit (goal.at.loop-i-preserved c).In-loop-i, c.loop-i.invariant.1))

pub returns : goal.returns
returns c =
    let a = c.args in
    let all : c.loop-i.i ≡ a.names = omega (arith, length-take-le a.names (drop a.at a.bytes.now), length-drop a.at a.bytes.now) in
    c.loop-i.invariant.0 ∙ ap (spec.agreeing _ _) all

pub overflow_add-count : goal.overflow_add-count
overflow_add-count c =
    omega (arith, bit (goal.at.overflow_add-count c).In-loop-i, c.loop-i.invariant)
