-- `lists::memory_formed`: each byte passed is right.
use Rattle.std.proofs.Common.{◌≡◌, ℕ, sym, refl, ap, ◌∙◌, add-one, arith}
use Rattle.program.specs.Asking.{ask_each}
use Rattle.program.specs.File.{byte_at}
use Rattle.program.specs.FirstSuch.{first_of}
use Rattle.program.proofs.Asking.{each_raised, each_more}
use Rattle.analysis.proofs.Laid.{byte_asked, memory_asked}
use Rattle.analysis.proofs.lists.memory_formed.Goals as goal
use Rattle.analysis.proofs.lists.memory_formed.Goals.{After-ask}

-- the question of the byte of name i
asked : (c : After-ask) → let a = c.args in c.ask.result ≡ byte_asked a.code.now a.bytes.now a.at c.loop-i.i
unfolding byte_at
asked c = c.ask.ensures ∙ rw (c.byte_formed-yes.ensures, c.size_of.ensures)

pub loop-i-init : goal.loop-i-init
unfolding ask_each first_of
loop-i-init c = refl

pub returns-then-all_formed : goal.returns-then-all_formed
returns-then-all_formed c ns y = sym (c.all_formed.ensures ns y c.if-all_formed.true)

pub returns-in_err-ask : goal.returns-in_err-ask
returns-in_err-ask c ns y =
    each_raised _ _ c.loop-i.i (omega arith) c.loop-i.invariant (asked (goal.at.returns-in_err-ask c).After-ask) c.from_residual.ensures.1 c.in_err-ask.was ∙ memory_asked y _ _

pub loop-i-preserved : goal.loop-i-preserved
loop-i-preserved c =
    rw add-one (each_more _ c.loop-i.i c.loop-i.invariant (asked (goal.at.loop-i-preserved c).After-ask) c.in_ok-ask.was)

pub returns : goal.returns
returns c ns y =
    let a = c.args in
    let all : c.loop-i.i ≡ a.names = omega arith in
    sym (ap (λ (n : ℕ). ask_each n (byte_asked a.code.now a.bytes.now a.at)) (sym all) ∙ c.loop-i.invariant) ∙ memory_asked y _ _
