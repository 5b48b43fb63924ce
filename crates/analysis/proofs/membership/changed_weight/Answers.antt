-- `membership::changed_weight`: one term of the sum is another.
use Rattle.std.proofs.Common.{◌≡◌, ℕ, ◌+◌, ◌*◌, get_or, ap, ◌∙◌, arith}
use Rattle.analysis.specs.Parts.Membership.{factor}
use Rattle.analysis.proofs.Hashes.{weighted_term, sum_changed, sum_kept}
use Rattle.analysis.proofs.membership.changed_weight.Goals as goal
use Rattle.analysis.proofs.membership.changed_weight.Goals.{After-term}

-- the term that is left out
told : (c : After-term) → c.term.result ≡ get_or c.args.memory.rho.now c.args.change.name 0 * factor (2 + c.args.change.name)
told c =
    c.term.ensures.value ∙ ap (λ (f : ℕ). get_or c.args.memory.rho.now c.args.change.name 0 * f) (c.requires.each (2 + c.args.change.name) (omega (arith, c.args.memory.weighed.front.few, c.if-x-memory.true)))

pub overflow_sub-without : goal.overflow_sub-without
overflow_sub-without c =
    let w = c.args.memory.weighed in
    omega (arith, told (goal.at.overflow_sub-without c).After-term, w.weighed, weighted_term 2 c.args.memory.rho.now c.args.memory.names c.args.change.name c.if-x-memory.true)

pub overflow_add-result : goal.overflow_add-result
overflow_add-result c = omega (arith, c.term-then-x-memory.ensures.small, c.args.memory.weighed.small)

pub returns-then-x-memory : goal.returns-then-x-memory
returns-then-x-memory c =
    let w = c.args.memory.weighed in
    let x = c.args.change.name in
    let h = c.if-x-memory.true in record {
      value = rw (told (goal.at.returns-then-x-memory c).After-term, c.term-then-x-memory.ensures.value, c.requires.each (2 + x) (omega (arith, w.front.few)))
          (sum_changed c.args.memory.names c.args.memory.rho.now (omega (arith, w.front)) c.args.memory.weight w.weighed x c.args.change.set h);
      small = omega (arith, c.term-then-x-memory.ensures.small, w.small);
    }

pub returns : goal.returns
returns c =
    let w = c.args.memory.weighed in
    record { value = sum_kept c.args.memory.names c.args.memory.rho.now (omega (arith, w.front)) c.args.memory.weight w.weighed _ _ c.if-x-memory.false; small = omega (arith, w.small) }
