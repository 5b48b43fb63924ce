-- `lists::initial_formed`: each record passed is well formed.
use Rattle.std.proofs.Common.{◌≡◌, ℕ, ◌+◌, ◌*◌, ◌/◌, ◌≤◌, List, length, sym, refl, ap, ◌∙◌, add-one, arith}
use Rattle.program.specs.Asking.{ask_each}
use Rattle.program.specs.FirstSuch.{first_of}
use Rattle.program.specs.Parts.Prepared.{Coded}
use Rattle.program.proofs.Asking.{each_raised, each_more}
use Rattle.analysis.specs.Parts.RecordParts.{SizesIn}
use Rattle.analysis.specs.Records.{memory_formed}
use Rattle.analysis.proofs.Laid.{record_inside, initial_asked, sizes_in}
use Rattle.analysis.proofs.lists.initial_formed.Goals as goal
use Rattle.analysis.proofs.lists.initial_formed.Goals.{After-name_count-names, In-loop-k}

-- the names' sizes are in the code
sized : (c : After-name_count-names) (ns : List ℕ) → Coded ns c.args.code.now → SizesIn ns c.args.code.now c.name_count-names.result
sized c ns y = sizes_in y _ c.name_count-names.ensures

-- the record passed is inside the list
inside : (c : In-loop-k) → let names = c.name_count-names.result in names * c.loop-k.k + names ≤ length c.args.bytes.now
inside c = record_inside _ _ c.loop-k.k (omega arith)

pub loop-k-init : goal.loop-k-init
unfolding ask_each first_of
loop-k-init c ns y = refl

pub overflow_mul-names : goal.overflow_mul-names
overflow_mul-names c = omega (arith, inside (goal.at.overflow_mul-names c).In-loop-k)

pub memory_formed-requires : goal.memory_formed-requires
memory_formed-requires c = (rw c.name_count-names.ensures c.requires.1, inside (goal.at.memory_formed-requires c).In-loop-k)

pub returns-in_err-memory_formed : goal.returns-in_err-memory_formed
returns-in_err-memory_formed c ns y =
    let names = sized (goal.at.returns-in_err-memory_formed c).After-name_count-names ns y in
    each_raised _ _ c.loop-k.k (omega arith) (c.loop-k.invariant ns y) (c.memory_formed.ensures ns names) c.from_residual.ensures.1 c.in_err-memory_formed.was ∙ initial_asked names _

pub loop-k-preserved : goal.loop-k-preserved
loop-k-preserved c ns y =
    rw add-one (each_more _ c.loop-k.k (c.loop-k.invariant ns y) (c.memory_formed.ensures ns (sized (goal.at.loop-k-preserved c).After-name_count-names ns y)) c.in_ok-memory_formed.was)

pub returns : goal.returns
returns c ns y =
    let names = c.name_count-names.result in
    let all : c.loop-k.k ≡ length c.args.bytes.now / names = omega arith in
    sym (ap (λ (n : ℕ). ask_each n (λ k. memory_formed ns c.args.bytes.now (names * k))) (sym all) ∙ c.loop-k.invariant ns y) ∙ initial_asked (sized (goal.at.returns c).After-name_count-names ns y) _

pub nonzero_div-k-end : goal.nonzero_div-k-end
nonzero_div-k-end c = rw c.name_count-names.ensures c.requires.0
