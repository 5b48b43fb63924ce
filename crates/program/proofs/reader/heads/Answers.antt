-- `reader::heads`: one reader goes from head to head.
use Prim.Native.Nat.{ℕ, suc}
use mathlib.Core.List.{List}
use mathlib.Core.Path.{◌≡◌, ap, ◌∙◌}
use Rattle.std.proofs.Common.{Bor}
use Rattle.program.specs.File.{field_head, field_start, place_after, after_head, head_at, Head}
use Rattle.program.specs.Parts.Layouts.{heads_of}
use Rattle.program.proofs.reader.heads.Goals as goal

-- what a reader finds that stands after k fields of the file
found : (s : Bor (List ℕ)) (k : ℕ) {b : Bor (List ℕ)} {at : ℕ} {t : Head} → b ≡ s → at ≡ field_start s.now k → t ≡ head_at b.now at → t ≡ field_head s.now k
unfolding field_head
found s k {b} {at} b_is at_is e = e ∙ (ap (λ (x : Bor (List ℕ)). head_at x.now at) b_is ∙ ap (head_at s.now) at_is)

-- where it stands when it has passed that
passed : (s : Bor (List ℕ)) (k : ℕ) {at : ℕ} {t : Head} → t ≡ field_head s.now k → at ≡ after_head t → at ≡ field_start s.now (suc k)
unfolding place_after field_head
passed s k e f = f ∙ ap after_head e

pub returns : goal.returns
unfolding heads_of place_after
returns c =
    let s = c.args.s in
    let first = c.new-first.ensures.0 in
    let names = found s 0 first c.new-first.ensures.1 c.head-names.ensures in
    let second = c.past-second.ensures.0 ∙ first in
    let arithmetic = found s 1 second (passed s 0 names c.past-second.ensures.1) c.head-arithmetic.ensures in
    let third = c.past-third.ensures.0 ∙ second in
    let boolean = found s 2 third (passed s 1 arithmetic c.past-third.ensures.1) c.head-boolean.ensures in
    let fourth = c.past-fourth.ensures.0 ∙ third in
    let commands = found s 3 fourth (passed s 2 boolean c.past-fourth.ensures.1) c.head-commands.ensures in
    let fifth = c.past-fifth.ensures.0 ∙ fourth in
    let initial = found s 4 fifth (passed s 3 commands c.past-fifth.ensures.1) c.head-initial.ensures in
    λ i. record { names = names i; arithmetic = arithmetic i; boolean = boolean i; commands = commands i; initial = initial i }
