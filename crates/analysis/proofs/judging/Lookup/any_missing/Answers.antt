-- `Lookup::any_missing`: set by set, up to the first that is missing; what is left decides.
use Rattle.std.proofs.Common.{sym, ◌∙◌, arith}
use borrow.Author.Tests.{not-true, not-false}
use Rattle.analysis.proofs.Searching.{none_left, one_missing, one_listed}
use Rattle.analysis.proofs.judging.Lookup.any_missing.Goals as goal

pub loop-sets-init : goal.loop-sets-init
loop-sets-init c =
    (rw c.sets_of-sets.ensures c.requires, λ ns ρ e x y. rw (c.name_of-name.ensures, c.sets_of-sets.ensures))

pub returns-then-not-listed : goal.returns-then-not-listed
returns-then-not-listed c ns ρ e x y =
    let l = c.loop-sets in
    sym
    (l.invariant.1 ns ρ e x y
    ∙ one_missing ns _ _ ρ _ l.sets c.loop-sets-test.true l.invariant.0 (rw (← c.first_set.ensures) (sym (c.listed.ensures ns ρ e x y) ∙ not-true _ c.if-not-listed.true-raw)))

pub loop-sets-preserved : goal.loop-sets-preserved
loop-sets-preserved c =
    let l = c.loop-sets in (
      omega (arith, c.other_sets-sets.ensures, l.invariant.0),
      λ ns ρ e x y. rw c.other_sets-sets.ensures
          (l.invariant.1 ns ρ e x y
          ∙ one_listed ns _ _ ρ _ l.sets c.loop-sets-test.true l.invariant.0
          (rw (← c.first_set.ensures) (sym (c.listed.ensures ns ρ e x y) ∙ not-false _ c.if-not-listed.false-raw))),
    )

pub returns : goal.returns
returns c ns ρ e x y =
    let l = c.loop-sets in
    sym (l.invariant.1 ns ρ e x y ∙ none_left ns _ _ ρ _ l.sets (omega (arith, c.loop-sets-test.false)))

pub loop-sets-smaller : goal.loop-sets-smaller
loop-sets-smaller c =
    omega (arith, c.other_sets-sets.ensures, c.loop-sets-test.true)
