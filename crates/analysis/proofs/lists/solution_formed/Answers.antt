-- `lists::solution_formed`: each record passed is well formed.
use Rattle.std.proofs.Common.{◌≡◌, ℕ, ◌+◌, ◌*◌, ◌/◌, ◌≤◌, List, length, sym, refl, ap, ◌∙◌, add-one, arith}
use Rattle.program.specs.Asking.{ask_each}
use Rattle.program.specs.FirstSuch.{first_of}
use Rattle.program.specs.Parts.Prepared.{Coded}
use Rattle.program.proofs.Asking.{each_raised, each_more}
use Rattle.analysis.specs.Parts.RecordParts.{SizesIn, record_formed}
use Rattle.analysis.proofs.Laid.{record_inside, solution_asked, sizes_in}
use Rattle.analysis.proofs.lists.solution_formed.Goals as goal
use Rattle.analysis.proofs.lists.solution_formed.Goals.{After-name_count-names, In-loop-k}

-- the names' sizes are in the code
sized : (c : After-name_count-names) (ns : List ℕ) → Coded ns c.args.code.now → SizesIn ns c.args.code.now c.name_count-names.result
sized c ns y = sizes_in y _ c.name_count-names.ensures

-- the record passed is inside the list
inside : (c : In-loop-k) → let names = c.name_count-names.result in (2 + names) * c.loop-k.k + 2 + names ≤ length c.args.bytes.now
inside c = omega (arith, record_inside (length c.args.bytes.now) (2 + c.name_count-names.result) c.loop-k.k (omega arith))

pub loop-k-init : goal.loop-k-init
unfolding ask_each first_of
loop-k-init c ns y = refl

pub overflow_mul-width : goal.overflow_mul-width
overflow_mul-width c = omega (arith, inside (goal.at.overflow_mul-width c).In-loop-k)

pub record_formed-requires : goal.record_formed-requires
record_formed-requires c = (rw c.name_count-names.ensures c.requires, inside (goal.at.record_formed-requires c).In-loop-k)

pub returns-in_err-record_formed : goal.returns-in_err-record_formed
returns-in_err-record_formed c ns g y e =
    let names = sized (goal.at.returns-in_err-record_formed c).After-name_count-names ns y in
    each_raised _ _ c.loop-k.k (omega arith) (c.loop-k.invariant ns y) (c.record_formed.ensures ns names) c.from_residual.ensures.1 c.in_err-record_formed.was ∙ solution_asked names _ g e

pub loop-k-preserved : goal.loop-k-preserved
loop-k-preserved c ns y =
    rw add-one (each_more _ c.loop-k.k (c.loop-k.invariant ns y) (c.record_formed.ensures ns (sized (goal.at.loop-k-preserved c).After-name_count-names ns y)) c.in_ok-record_formed.was)

pub returns : goal.returns
returns c ns g y e =
    let width = 2 + c.name_count-names.result in
    let all : c.loop-k.k ≡ length c.args.bytes.now / width = omega arith in
    sym (ap (λ (n : ℕ). ask_each n (λ k. record_formed ns c.args.nodes c.args.bytes.now (width * k))) (sym all) ∙ c.loop-k.invariant ns y)
    ∙ solution_asked (sized (goal.at.returns c).After-name_count-names ns y) _ g e

pub overflow_add-width : goal.overflow_add-width
overflow_add-width c = omega (arith, c.name_count-names.ensures, c.requires)
