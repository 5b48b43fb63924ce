-- The worked examples of document 01 on values, steps and runs, and those of document 02's orders 7 and 8. `proofs/Examples` shows that each holds.
use Rattle.std.specs.Prelude.{ℕ, ℤ, pos, negsuc, replicate}
use mathlib.Core.List.{List, [], ◌∷◌, ◌++◌, flat_map}
use Rattle.signs.specs.Case.{Case, ◌gives◌, row}
use Rattle.signs.specs.declared.Comparison.TheVariants.{Greater}
use Rattle.signs.specs.declared.Operator.TheVariants.{Add, Sub}
use Rattle.program.specs.Examples.{factorial, two_guards, adding, file_of, entry_of}
use Rattle.program.specs.Syntax.{Arith, number, variable, element, operator, Boolean, comparison, conjunction, short_circuit}
use Rattle.program.specs.declared.Construction.{Construction}
use Rattle.program.specs.declared.Construction.TheVariants.{Nondeterministic, Deterministic}
use Rattle.semantics.specs.Budget.{program_budgeted, budget_reply, ended_numbers}
use Rattle.semantics.specs.Expression.{value, truth_in, evaluation_numbers, truth_numbers}
use Rattle.semantics.specs.Replay.{program_replay, program_outcomes}
use Rattle.semantics.specs.Step.{begun, outcome_numbers, step_reply, stepped_numbers}

-- x + A[i] and A[j − 1], A[j]; entries play no part in a value
unfoldable pub sum_of_element : Arith
sum_of_element = operator 0 Add (variable 0 0) (element 0 2 (variable 0 1))

unfoldable pub j_positive : Boolean
j_positive = comparison 0 Greater (variable 0 0) (number 0 (pos 0))

unfoldable pub out_of_order : Boolean
out_of_order =
    comparison 0 Greater
    (element 0 1 (operator 0 Sub (variable 0 0) (number 0 (pos 1))))
    (element 0 1 (variable 0 0))

-- (P) "x + A[i], x 12, i 2, A 2 3 7 5: 19", and with i 4: 35; (P) "(j > 0) ∧ (A[j−1] > A[j]), j 0, A 2 3 7: 34; with && false"
unfoldable pub expressions : List Case
expressions =
    (evaluation_numbers (value (0 ∷ 0 ∷ 4 ∷ []) (row (12 ∷ 2 ∷ 2 ∷ 3 ∷ 7 ∷ 5 ∷ [])) sum_of_element) gives row (0 ∷ 19 ∷ []))
    ∷ (evaluation_numbers (value (0 ∷ 0 ∷ 4 ∷ []) (row (12 ∷ 4 ∷ 2 ∷ 3 ∷ 7 ∷ 5 ∷ [])) sum_of_element) gives row (35 ∷ []))
    ∷ (row (truth_numbers (truth_in (0 ∷ 3 ∷ []) (row (0 ∷ 2 ∷ 3 ∷ 7 ∷ [])) (conjunction 0 j_positive out_of_order)))
    gives row (34 ∷ []))
    ∷ (row (truth_numbers (truth_in (0 ∷ 3 ∷ []) (row (0 ∷ 2 ∷ 3 ∷ 7 ∷ [])) (short_circuit 0 j_positive out_of_order)))
    gives row (0 ∷ 0 ∷ []))
    ∷ []

-- if x > 0 → skip fi
unfoldable pub positive_only : List ℕ
positive_only =
    file_of
    (0 ∷ [])
    (entry_of 1 0 0 0 ∷ entry_of 0 0 0 0 ∷ [])
    (entry_of 2 0 1 0 ∷ [])
    (entry_of 0 0 0 0 ∷ entry_of 6 0 0 0 ∷ entry_of 4 1 0 0 ∷ [])

-- the reply of a budgeted run, then the memory; on document 01's graph
unfoldable pub ran_on : Construction → List ℕ → ℕ → List ℤ → List ℤ
ran_on κ s budget m = row (ended_numbers (budget_reply κ s budget m)) ++ (program_budgeted κ s budget m).final.memory

unfoldable pub ran : List ℕ → ℕ → List ℤ → List ℤ
ran = ran_on Nondeterministic

-- (P) "Its run from x 3, y 0, budget 11: answer 0, node 1, 11 arrows, x 0, y 6", and with budget 10; "if x > 0 → skip fi, x 0, budget 1: answer 2,
-- count 0"; two cells for one: 12
unfoldable pub runs : List Case
runs =
    (ran factorial 11 (row (3 ∷ 0 ∷ [])) gives row (0 ∷ 1 ∷ 11 ∷ 0 ∷ 6 ∷ []))
    ∷ (ran factorial 10 (row (3 ∷ 0 ∷ [])) gives row (1 ∷ 2 ∷ 10 ∷ 0 ∷ 6 ∷ []))
    ∷ (ran positive_only 1 (row (0 ∷ [])) gives row (2 ∷ 0 ∷ 0 ∷ 0 ∷ []))
    ∷ (ran positive_only 1 (row (5 ∷ 6 ∷ [])) gives row (12 ∷ 0 ∷ 0 ∷ 0 ∷ 5 ∷ 6 ∷ []))
    -- a loop is left when all its guards are false and not when one is
    ∷ (ran two_guards 1 (row (0 ∷ 0 ∷ [])) gives row (0 ∷ 1 ∷ 1 ∷ 0 ∷ 0 ∷ []))
    ∷ (ran two_guards 2 (row (0 ∷ 1 ∷ [])) gives row (1 ∷ 0 ∷ 2 ∷ 0 ∷ 1 ∷ []))
    ∷ []

-- (order 7) the program of the book's Example 2.25, with A 3 -1 4 0 …: a break ends the sum at the first negative element; with continue in its place "the program
-- will sum all the non-negative entries in the array and count their number"
unfoldable pub elements : List ℤ
elements = pos 3 ∷ negsuc 0 ∷ pos 4 ∷ replicate 7 (pos 0)

unfoldable pub jumps : List Case
jumps =
    (ran (adding 8) 100 (replicate 3 (pos 5) ++ elements) gives row (0 ∷ 1 ∷ 12 ∷ 2 ∷ 3 ∷ 1 ∷ []) ++ elements)
    ∷ (ran (adding 9) 100 (replicate 3 (pos 5) ++ elements) gives row (0 ∷ 1 ∷ 53 ∷ 10 ∷ 7 ∷ 9 ∷ []) ++ elements)
    ∷ []

-- run and memory after a list of calls from the fresh run, as numbers
unfoldable pub after_calls : Construction → List ℕ → List ℕ → List ℤ → List ℤ
after_calls κ s es m =
    let c = program_replay κ s (begun m) es in
    row (c.run.node ∷ c.run.count ∷ []) ++ c.memory

-- what the calls answer
unfoldable pub call_answers : Construction → List ℕ → List ℕ → List ℤ → List ℕ
call_answers κ s es m = flat_map outcome_numbers (program_outcomes κ s (begun m) es)

-- calls along edges 1, 0, 1 and 4 of the factorial lesson: refused, taken, taken, refused; and 0, 4 from x 1: taken, undefined; one call, of the
-- lesson and of an empty file
unfoldable pub calls : List Case
calls =
    (after_calls Nondeterministic factorial (1 ∷ 0 ∷ 1 ∷ 4 ∷ []) (row (3 ∷ 0 ∷ [])) gives row (3 ∷ 2 ∷ 3 ∷ 1 ∷ []))
    ∷ (row (call_answers Nondeterministic factorial (1 ∷ 0 ∷ 1 ∷ 4 ∷ []) (row (3 ∷ 0 ∷ []))) gives row (15 ∷ 0 ∷ 0 ∷ 0 ∷ 15 ∷ 0 ∷ []))
    ∷ (row (call_answers Nondeterministic factorial (0 ∷ 4 ∷ []) (row (1 ∷ 0 ∷ []))) gives row (0 ∷ 31 ∷ []))
    ∷ (row (stepped_numbers (step_reply Nondeterministic factorial (begun (row (3 ∷ 0 ∷ []))) 0)) gives row (0 ∷ 2 ∷ 1 ∷ []))
    ∷ (row (stepped_numbers (step_reply Nondeterministic [] (begun (row (3 ∷ 0 ∷ []))) 0)) gives row (1 ∷ 0 ∷ 0 ∷ 0 ∷ []))
    ∷ []

-- if x ≥ y → m := x [] y ≥ x → m := y fi, over x, y and m
unfoldable pub greatest : List ℕ
greatest =
    file_of
    (0 ∷ 0 ∷ 0 ∷ [])
    (entry_of 1 0 0 0 ∷ entry_of 1 1 0 0 ∷ entry_of 1 1 0 0 ∷ entry_of 1 0 0 0 ∷ entry_of 1 0 0 0 ∷ entry_of 1 1 0 0 ∷ [])
    (entry_of 3 0 1 0 ∷ entry_of 3 2 3 0 ∷ [])
    (entry_of 1 2 4 0 ∷ entry_of 6 0 0 0 ∷ entry_of 1 2 5 0 ∷ entry_of 6 1 2 0 ∷ entry_of 7 1 3 0 ∷ entry_of 4 4 0 0 ∷ [])

-- if x > 0 → skip [] 1 / y > 0 → skip fi
unfoldable pub later_undefined : List ℕ
later_undefined =
    file_of
    (0 ∷ 0 ∷ [])
    (entry_of 1 0 0 0 ∷ entry_of 0 0 0 0 ∷ entry_of 0 0 1 0 ∷ entry_of 1 1 0 0 ∷ entry_of 6 2 3 0 ∷ entry_of 0 0 0 0 ∷ [])
    (entry_of 2 0 1 0 ∷ entry_of 2 4 5 0 ∷ [])
    (entry_of 0 0 0 0 ∷ entry_of 6 0 0 0 ∷ entry_of 0 0 0 0 ∷ entry_of 6 1 2 0 ∷ entry_of 7 1 3 0 ∷ entry_of 4 4 0 0 ∷ [])

-- (order 8) guards that overlap: of two equal numbers both arrows are defined on document 01's graph, and one on the deterministic one; of a lesser first number the
-- second is, on both. A later guard that is undefined beside a true earlier one: "undefined if any of these is", so its own reason and not 31; where the first is undefined
-- the second is so too. The factorial, whose run is the same, with the guard's own reason on both
unfoldable pub selections : List Case
selections =
    (row (call_answers Nondeterministic greatest (0 ∷ []) (row (4 ∷ 4 ∷ 0 ∷ []))) gives row (0 ∷ []))
    ∷ (row (call_answers Nondeterministic greatest (2 ∷ []) (row (4 ∷ 4 ∷ 0 ∷ []))) gives row (0 ∷ []))
    ∷ (row (call_answers Deterministic greatest (0 ∷ []) (row (4 ∷ 4 ∷ 0 ∷ []))) gives row (0 ∷ []))
    ∷ (row (call_answers Deterministic greatest (2 ∷ []) (row (4 ∷ 4 ∷ 0 ∷ []))) gives row (31 ∷ []))
    ∷ (row (call_answers Deterministic greatest (2 ∷ []) (row (3 ∷ 4 ∷ 0 ∷ []))) gives row (0 ∷ []))
    ∷ (ran_on Deterministic greatest 2 (row (3 ∷ 4 ∷ 0 ∷ [])) gives row (0 ∷ 1 ∷ 2 ∷ 3 ∷ 4 ∷ 4 ∷ []))
    ∷ (row (call_answers Nondeterministic later_undefined (2 ∷ []) (row (1 ∷ 0 ∷ []))) gives row (32 ∷ []))
    ∷ (row (call_answers Deterministic later_undefined (2 ∷ []) (row (1 ∷ 0 ∷ []))) gives row (32 ∷ []))
    ∷ (row (call_answers Deterministic later_undefined (2 ∷ []) (row (1 ∷ 1 ∷ []))) gives row (31 ∷ []))
    ∷ (ran_on Deterministic later_undefined 1 (row (1 ∷ 0 ∷ [])) gives row (1 ∷ 2 ∷ 1 ∷ 1 ∷ 0 ∷ []))
    ∷ (ran_on Deterministic later_undefined 1 (row (0 ∷ 0 ∷ [])) gives row (2 ∷ 0 ∷ 0 ∷ 0 ∷ 0 ∷ []))
    ∷ (ran_on Deterministic factorial 11 (row (3 ∷ 0 ∷ [])) gives row (0 ∷ 1 ∷ 11 ∷ 0 ∷ 6 ∷ []))
    ∷ (row (call_answers Deterministic factorial (0 ∷ 4 ∷ []) (row (1 ∷ 0 ∷ []))) gives row (0 ∷ 31 ∷ []))
    ∷ (row (call_answers Deterministic factorial (0 ∷ 1 ∷ []) (row (0 ∷ 0 ∷ []))) gives row (0 ∷ 31 ∷ []))
    ∷ []

unfoldable pub cases : List Case
cases = expressions ++ runs ++ jumps ++ calls ++ selections
