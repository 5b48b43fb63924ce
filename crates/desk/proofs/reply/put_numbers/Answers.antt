-- `reply::put_numbers`: one number after another.
use mathlib.Core.Path.{◌≡◌, sym, ◌∙◌}
use mathlib.Core.List.{map}
use native.Mathlib.Nat.{le_antisymm}
use native.Mathlib.Numerals.{add-one}
use native.Mathlib.Omega.{arith}
use lib.IntN.{pos}
use mir.Syntax.{w64}
use mir.Val.{to_z}
use lib.ListN.{get_or, length-map, get_or-map}
use lib.Seq.{paste-suc}
use Rattle.std.proofs.lemmas.Int.{to_z_pos}
use Rattle.desk.proofs.Written.{all_put}
use Rattle.desk.proofs.reply.put_numbers.Goals as goal

pub loop-i-preserved : goal.loop-i-preserved
loop-i-preserved c =
    let l = c.loop-i in
    let numbers = map pos c.args.numbers.now in
    let same = length-map c.args.numbers.now pos in
    let small = c.type_inv.numbers l.i in
    let here : to_z w64 (get_or c.args.numbers.now l.i 0) ≡ get_or numbers l.i (pos 0) = to_z_pos w64 _ (omega arith) ∙ sym (get_or-map pos c.args.numbers.now l.i 0) in
    rw (here, l.invariant, add-one) (paste-suc c.args.reply.now 3 numbers l.i (pos 0) (omega (arith, c.requires, c.loop-i-test.true)) (omega (arith, same, c.loop-i-test.true)))

pub returns : goal.returns
returns c =
    let l = c.loop-i in
    l.invariant ∙ all_put 3 c.args.numbers.now c.args.reply.now l.i (le_antisymm l.auto.i-end c.loop-i-test.false)
