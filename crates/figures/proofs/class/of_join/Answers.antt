-- `class::of_join`: what passes the tests is small, and so is the sum of two such.
use Rattle.std.specs.Prelude.{Ok}
use mathlib.Core.Path.{◌≡◌, sym, ap, subst, ◌∙◌}
use mathlib.Core.Bool.{true}
use Prim.Native.Nat.{◌+◌}
use native.Mathlib.Omega.{arith}
use Rattle.signs.proofs.Results.{handed_on}
use Rattle.program.proofs.Laws.{ask_fit}
use Rattle.program.proofs.Tests.{three}
use Rattle.program.specs.Asking.{ask}
use Rattle.figures.specs.Parts.Bounds.{Bounded}
use Rattle.figures.specs.Figures.{figures_of, join_validity, join_figures, join_row}
use Rattle.figures.specs.Totals.{countable, possible}
use Rattle.figures.proofs.Limits.{Counted, counted, possible_bounded, joined_bounded, sums_fit, squares_fit, joined_read}
use Rattle.figures.proofs.Replies.{numbered, by_fit, by_refused}
use Rattle.figures.proofs.class.of_join.Goals as goal
use Rattle.figures.proofs.class.of_join.Goals.{In_ok-ask}

pub returns-in_err-ask : goal.returns-in_err-ask
unfolding join_validity join_figures join_row
returns-in_err-ask c =
    numbered
    (handed_on _ c.from_residual.ensures.1 ∙ by_refused _ _ _ (sym (c.ask.ensures ∙ ap (λ b. ask b 23 0) c.joinable.ensures) ∙ c.in_err-ask.was))

-- where the question is answered yes
module _ (c : In_ok-ask) where
  fit : join_validity c.args.first c.args.second ≡ Ok tt
  unfolding join_validity
  fit = sym (c.ask.ensures ∙ ap (λ b. ask b 23 0) c.joinable.ensures) ∙ c.in_ok-ask.was

  tests : (countable (c.args.first.count + c.args.second.count) ≡ true) × (possible c.args.first ≡ true) × (possible c.args.second ≡ true)
  unfolding join_validity
  tests = three _ _ _ (ask_fit _ 23 0 fit)

  count : Counted (c.args.first.count + c.args.second.count)
  count = counted _ tests.0

  first : Bounded c.args.first
  first = possible_bounded _ (omega (arith, count.few)) tests.1

  second : Bounded c.args.second
  second = possible_bounded _ (omega (arith, count.few)) tests.2

pub overflow_add-first : goal.overflow_add-first
overflow_add-first c = omega (arith, (count (goal.at.overflow_add-first c).In_ok-ask).few)

pub overflow_add-first-2 : goal.overflow_add-first-2
overflow_add-first-2 c = let p = (goal.at.overflow_add-first-2 c).In_ok-ask in sums_fit _ _ (first p) (second p) (count p).few

pub overflow_add-first-3 : goal.overflow_add-first-3
overflow_add-first-3 c = let p = (goal.at.overflow_add-first-3 c).In_ok-ask in squares_fit _ _ (first p) (second p) (count p).few

pub of_totals-requires : goal.of_totals-requires
of_totals-requires c =
    let p = (goal.at.of_totals-requires c).In_ok-ask in
    let f = (count p).few in
    record { some = (count p).some; bounded = subst Bounded (sym (joined_read _ _ (first p) (second p) f)) (joined_bounded _ _ (first p) (second p) f) }

pub returns : goal.returns
unfolding join_figures join_row
returns c =
    let p = (goal.at.returns c).In_ok-ask in
    numbered (ap Ok (c.of_totals.ensures ∙ ap figures_of (joined_read _ _ (first p) (second p) (count p).few)) ∙ by_fit _ _ (fit p))
