-- `unfolding definitions` opens every definition of `analysis` and of the crates below to a proof that goes by computation.
use mathlib.Core.List.{flatten}
use Rattle.analysis.specs.Abstraction
use Rattle.analysis.specs.Records
use Rattle.analysis.specs.Parts.Membership
use Rattle.analysis.specs.Parts.RecordParts
use Rattle.analysis.specs.Parts.Judging
use Rattle.analysis.specs.Signs
use Rattle.analysis.specs.Results
use Rattle.analysis.specs.Parts.Changing
use Rattle.analysis.specs.Index
use Rattle.analysis.specs.Verdict
use Rattle.analysis.specs.Solver
use Rattle.analysis.specs.Parts.Solving
use Rattle.analysis.specs.Parts.Doubling
use Rattle.analysis.specs.Splitter
use Rattle.analysis.specs.Sheet
use Rattle.analysis.specs.Soundness
use Rattle.analysis.specs.Parts.Covering
use Rattle.analysis.specs.Examples
use Rattle.semantics.proofs.Open as Below

unfoldable pub definitions : Unit {0}
unfolding Abstraction.signs_of Abstraction.name_values Abstraction.abstract_memory Abstraction.well_formed Records.initial_width Records.record_width Records.record_count Records.record_at Records.records_of Records.record_for Records.node_of Records.memory_of Records.same_signs Records.gives Records.listed Records.has_at Records.has_initial Records.whole_records Records.initial_whole Records.both_whole Records.memory_formed Records.initial_formed Records.solution_formed Records.wrong_byte Records.list_number Records.wrong_byte_numbers Records.unreadable_numbers Signs.may_index Signs.signs_in Signs.truths_in Results.assigned_sets Results.sets_with Results.stored_sets Results.results Changing.Alike Changing.packed Changing.digits Changing.sets_of Changing.name_for Index.arith_indexes Index.boolean_indexes Index.index_sets Index.any_negative Index.may_be_negative Verdict.missing_initial Verdict.spot_at Verdict.first_spot Verdict.missing_result Verdict.mark_of Verdict.index_mark Verdict.verdict_by Verdict.verdict_unless_refused Verdict.unless_malformed Verdict.verdict_over Verdict.verdict Verdict.solution_validity Verdict.marking_by Verdict.marking Verdict.offending Verdict.mark_numbers Verdict.verdict_numbers Verdict.marking_numbers Verdict.verdict_row Verdict.mark_row Solver.offer Solver.offer_results Solver.offer_successors Solver.descend Solver.solution Solver.room_of Solver.finished_or Solver.solved_with Solver.buffer_with Solver.initial_validity Solver.solution_in Solver.solved Solver.solved_buffer Solver.solving_numbers Solver.solved_numbers Solver.solver_row Doubling.doubled Doubling.taken_off Splitter.split_place Splitter.split_by Splitter.split Splitter.split_numbers Splitter.split_row Sheet.sheet_of Sheet.listing Sheet.print_validity Sheet.lines_by Sheet.printed_lines Sheet.line_numbers Sheet.printed_rows Soundness.is_negative_index Soundness.meets_in_call Soundness.meets_in_effect Soundness.has_configuration Soundness.no_edge_meets Soundness.Sound Soundness.ThirdTermFor Covering.SoundOn Examples.first_seven Examples.factorial_sheet Examples.factorial_start Examples.solutions Examples.verdict_on Examples.verdicts Examples.stores Examples.store_at_j Examples.marks Examples.places Examples.listings Examples.by_first Examples.by_both Examples.by_either Examples.selections Examples.sheet_cases Examples.cases flatten Judging.any_missing Judging.picks Judging.handed_over Judging.first_picked Judging.widest Judging.NeverNegative Judging.spot_of Judging.formed_verdict Judging.marked Membership.last_below Membership.any_below Membership.among Membership.factor Membership.weighted Membership.spread Membership.bucket Membership.changed Membership.agreeing RecordParts.padded_byte RecordParts.padded RecordParts.record_formed RecordParts.readable Solving.found_in Solving.along Below.definitions
definitions = tt
