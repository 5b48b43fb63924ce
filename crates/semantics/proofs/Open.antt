-- `unfolding definitions` opens every definition of `semantics` and of the crates below to a proof that goes by computation.
use Rattle.semantics.specs.Expression
use Rattle.semantics.specs.Action
use Rattle.semantics.specs.Parts.Coding
use Rattle.semantics.specs.Parts.Cells
use Rattle.semantics.specs.Step
use Rattle.semantics.specs.Budget
use Rattle.semantics.specs.Replay
use Rattle.semantics.specs.Parts.Replaying
use Rattle.semantics.specs.Parts.Stepping
use Rattle.semantics.specs.Parts.Running
use Rattle.semantics.specs.Examples
use Rattle.program.proofs.Open as Below

unfoldable pub definitions : Unit {0}
unfolding Expression.cell_value Expression.place_of Expression.value_at Expression.operated Expression.combine Expression.value Expression.compare_values Expression.conjoin Expression.and_then Expression.negate Expression.truth_in Expression.fault_number Expression.evaluation_numbers Expression.truth_numbers Action.pass Action.store_to Action.effect Action.after Action.is_defined Coding.reason_numbered Coding.evaluated Coding.decided Coding.is_code Coding.earlier Coding.place_by Cells.front Step.fresh Step.leaves Step.edge_effect Step.memory_validity Step.step_validity Step.outcome_by Step.outcome_unless_refused Step.outcome Step.along Step.next Replaying.step Step.program_outcome Step.program_step Step.step_reply Step.outcome_numbers Step.stepped_numbers Step.step_row Budget.lowest_defined Budget.goes_on Budget.run_from Budget.ends_unless_refused Budget.budgeted Budget.program_budgeted Budget.budget_reply Budget.ending_numbers Budget.ended_numbers Budget.run_row Replay.program_replay Replay.program_outcomes Replaying.replay Replaying.outcomes Stepping.run_after Running.ending_at Examples.sum_of_element Examples.j_positive Examples.out_of_order Examples.expressions Examples.positive_only Examples.ran_on Examples.ran Examples.runs Examples.elements Examples.jumps Examples.after_calls Examples.call_answers Examples.calls Examples.greatest Examples.later_undefined Examples.selections Examples.cases Below.definitions
definitions = tt
