-- `unfolding definitions` opens every definition of `desk` and of the crates below to a proof that goes by computation.
use Rattle.desk.specs.Reply
use Rattle.desk.specs.Rows
use Rattle.desk.specs.Accepting
use Rattle.desk.specs.Parts.Heads
use Rattle.desk.specs.Examples
use Rattle.analysis.proofs.Open as Below
use Rattle.figures.proofs.Open as Class

unfoldable pub definitions : Unit {0}
unfolding Reply.answered_with Reply.refused_with Reply.malformed_with Reply.tell Reply.unless_short Reply.over_at Reply.returned Reply.replied Rows.validation_told Rows.validated Rows.input_validated Rows.parts_told Rows.parts Rows.two_told Rows.drew Rows.stepped Rows.ran Rows.marking Rows.verdict_told Rows.judged Rows.list_named Rows.part_named Rows.mark_told Rows.marked Rows.solver_told Rows.solved Rows.split Rows.figures_told Rows.figured Rows.joined Rows.version Accepting.mark_in Accepting.ThirdTermTold Heads.validity_head Heads.outcome_head Heads.ending_head Heads.verdict_head Heads.mark_head Heads.unreadable_head Heads.marking_head Heads.solving_head Heads.verdict_behind Heads.mark_behind Examples.calls Examples.replies Examples.files Examples.start Examples.runs Examples.sheets Examples.figures Examples.graphs_named Examples.cases Below.definitions Class.definitions
definitions = tt
