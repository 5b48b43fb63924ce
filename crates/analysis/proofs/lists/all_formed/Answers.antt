-- `lists::all_formed`: while it is true, each byte passed is right.
use Rattle.std.proofs.Common.{◌≡◌, sym, refl, ◌∙◌, add-one, arith}
use Rattle.std.proofs.lemmas.Bool.{and_parts}
use Rattle.program.specs.Asking.{ask_each}
use Rattle.program.specs.File.{byte_at}
use Rattle.program.specs.FirstSuch.{first_of}
use Rattle.analysis.proofs.Laid.{memory_asked, byte_passed}
use Rattle.analysis.proofs.lists.all_formed.Goals as goal

pub loop-i-init : goal.loop-i-init
unfolding ask_each first_of
loop-i-init c p = refl

pub loop-i-preserved : goal.loop-i-preserved
unfolding byte_at
loop-i-preserved c p =
    let a = c.args in
    let l = c.loop-i in
    let two = and_parts _ _ p in
    rw add-one (byte_passed a.code.now a.bytes.now a.at l.i (l.invariant two.0) (sym (c.byte_formed-formed.ensures ∙ rw c.size_of.ensures) ∙ two.1))

pub returns : goal.returns
returns c ns y p =
    let all : c.loop-i.i ≡ c.args.names = omega arith in
    rw (← memory_asked y _ _, ← all) (c.loop-i.invariant p)
