-- `program::validation::Script::check_uses` meets its contract.
use Prim.Native.Nat.{◌≤◌, ◌<◌}
use mathlib.Core.Path.{◌≡◌, sym, refl, ap, ◌∙◌}
use native.Mathlib.Numerals.{add-one}
use native.Mathlib.Omega.{arith}
use Rattle.program.specs.FirstSuch.{first_of}
use Rattle.program.specs.Asking.{ask_each}
use Rattle.program.specs.Parts.Counting.{capacity}
use Rattle.program.specs.File.{entry_count}
use Rattle.program.specs.Questions.{to_be_used, use_validity, used_validity}
use Rattle.program.specs.declared.Span.{Span}
use Rattle.program.proofs.Asking.{each_raised, each_more}
use Rattle.program.proofs.Counting.{slot_small, few_used, use_asked}
use Rattle.program.proofs.Reading.{laid_count, laid_start, entry_in}
use Rattle.program.proofs.validation.Script.check_uses.Goals as goal
use Rattle.program.proofs.validation.Script.check_uses.Goals.{After-ask, After-to_be_used-count}

-- the loop goes through the entries that are to be used, and these have slots
bound : (c : After-to_be_used-count) → c.to_be_used-count.result ≡ to_be_used c.args.table (entry_count c.args.self.bytes.now c.args.table)
bound c =
    c.to_be_used-count.ensures
    ∙ ap (λ (x : Span). to_be_used c.args.table x.count) c.span_of-span.ensures
    ∙ ap (to_be_used c.args.table) (laid_count _ _ c.args.self.laid_out.same c.args.table)

few : (c : After-to_be_used-count) → c.to_be_used-count.result ≤ capacity c.args.table
few c =
    let t = c.args.table in
    omega (arith, bound c, few_used t _ (c.args.self.laid_out.few t), ap (to_be_used t) (laid_count _ _ c.args.self.laid_out.same t))

-- what is asked in a turn is question 10 of the turn's entry
asked : (c : After-ask) → c.to_be_used-count.result ≤ capacity c.args.table → c.ask.result ≡ use_validity c.args.self.bytes.now c.args.table c.loop-n.n
asked c slots =
    let t = c.args.table in
    let start = ap (λ (x : Span). x.start) c.span_of-span.ensures ∙ laid_start _ _ c.args.self.laid_out.same t in
    let h : c.loop-n.n < capacity t = omega (arith, slots) in
    use_asked _ _ t c.loop-n.n _ _ c.requires h c.slot.ensures (entry_in _ t _ _ _ start refl) c.ask.ensures

pub loop-n-init : goal.loop-n-init
unfolding ask_each first_of
loop-n-init c = refl

pub bounds-counts-slot : goal.bounds-counts-slot
bounds-counts-slot c =
    omega (arith, c.slot.ensures, c.requires.room, slot_small c.args.table c.loop-n.n (omega (arith, few (goal.at.bounds-counts-slot c).After-to_be_used-count)))

pub returns-in_err-ask : goal.returns-in_err-ask
unfolding used_validity
returns-in_err-ask c =
    let l = c.loop-n in
    let p = goal.at.returns-in_err-ask c in
    let counted = p.After-to_be_used-count in
    each_raised _ _ l.n (omega (arith, bound counted)) l.invariant (asked p.After-ask (few counted)) c.from_residual.ensures.1 c.in_err-ask.was

pub loop-n-preserved : goal.loop-n-preserved
loop-n-preserved c =
    let l = c.loop-n in
    let p = goal.at.loop-n-preserved c in
    rw add-one (each_more _ l.n l.invariant (asked p.After-ask (few p.After-to_be_used-count)) c.in_ok-ask.was)

pub returns : goal.returns
unfolding used_validity
returns c =
    sym (ap (λ n. ask_each n (use_validity c.args.self.bytes.now c.args.table)) (omega (arith, bound (goal.at.returns c).After-to_be_used-count)) ∙ c.loop-n.invariant)
