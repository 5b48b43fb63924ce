-- `unfolding definitions` opens every definition of `program` and of the crates below to a proof that goes by computation.
use Rattle.program.specs.File
use Rattle.program.specs.FirstSuch
use Rattle.program.specs.Asking
use Rattle.program.specs.Kind
use Rattle.program.specs.Jumps
use Rattle.program.specs.Questions
use Rattle.program.specs.Parts.Layouts
use Rattle.program.specs.Parts.Counting
use Rattle.program.specs.Parts.Checking
use Rattle.program.specs.Syntax
use Rattle.program.specs.Tree
use Rattle.program.specs.Parts.Node
use Rattle.program.specs.Graph
use Rattle.program.specs.Meaning
use Rattle.program.specs.Parts.Sorted
use Rattle.program.specs.Parts.Preceding
use Rattle.program.specs.Drawing
use Rattle.program.specs.Parts.DrawingParts
use Rattle.program.specs.Examples
use Rattle.program.specs.Parts.Prepared
use Rattle.program.specs.Parts.Preparing
use Rattle.program.specs.Parts.GraphingParts
use Rattle.program.specs.Parts.Jumping
use Rattle.program.specs.Parts.LinkingParts
use Rattle.program.specs.Parts.Guards
use Rattle.signs.proofs.Open as Below

unfoldable pub definitions : Unit {0}
unfolding File.byte_at File.word_at File.signed32 File.names_field File.table_field File.program_fields File.initial_field File.head_found File.head_at File.after_head File.place_after File.field_head File.head_span File.head_content File.layout_of Layouts.heads_of File.span_of File.name_count File.name_offset File.size_at File.sizes File.entry_count File.table_start File.entry_offset File.entry_at File.entry File.is_variable File.is_array File.cells_of File.cell_count File.first_cell FirstSuch.or_else FirstSuch.first_of FirstSuch.is_at FirstSuch.first_such Asking.ask Asking.then_ask Asking.is_refused Asking.in_turn Asking.ask_each Asking.validity_numbers Kind.kinds Kind.shape Kind.table_of Kind.is_command Kind.is_guarded Kind.arith_kind Kind.boolean_kind Kind.command_kind Questions.whole_entries Questions.head_validity Questions.heads_validity Questions.end_validity Questions.name_validity Questions.named Questions.same_table Questions.limit Questions.of_sort Questions.points Questions.each_operand Questions.shape_validity Questions.entry_validity Questions.table_validity Questions.refers_to Questions.shape_uses Questions.entry_uses Questions.table_uses Questions.uses Questions.use_validity Questions.to_be_used Questions.used_validity Questions.last_validity Questions.uses_validity Questions.jump_validity Questions.jumps_validity Questions.content_validity Questions.validity Questions.input_validity Questions.validation_row Questions.input_row Questions.program_part Questions.initial_part Counting.capacity Counting.slot Checking.has Checking.any_has Sorted.arith_entry Syntax.boolean_entry Syntax.command_entry Sorted.command_size Tree.arith_below Tree.boolean_below Tree.command_below Tree.arith_made Tree.arith_trees Tree.arith_at Tree.boolean_made Tree.boolean_trees Tree.boolean_at Tree.command_made Tree.command_trees Tree.command_at Tree.last_command Tree.script Jumps.loose Jumping.may_jump Jumping.lowest Node.arith_form Node.boolean_form Node.command_form Graph.guards Graph.guard_action Graph.landing Graph.part Graph.edge_at Graph.done Graph.selected Graph.graph Graph.unnamed Graph.named Graph.edges Graph.edge_count Graph.node_count Graph.action_kind Graph.action_entry Sorted.action_table Sorted.guard_test Sorted.action_of Graph.word_bytes Graph.edge_bytes Graph.graph_bytes Meaning.performing Meaning.meaning Sorted.arith_named Sorted.boolean_named Sorted.command_named Sorted.action_named Sorted.meaning_named Sorted.arith_points Sorted.boolean_points Sorted.is_guarded_tree Sorted.command_points Sorted.action_points Preceding.leaving Preceding.before Preceding.is_test Preceding.is_select Preceding.is_guard Preceding.own_guard Preceding.own_guards Preceding.plain Preceding.plain_edge Preceding.plain_graph Drawing.draw_validity Drawing.drawn_by Drawing.drawn Drawing.over Drawing.drawn_buffer_by Drawing.drawn_buffer Drawing.drawn_numbers Drawing.drawing_row Drawing.edge_read DrawingParts.edge_numbers DrawingParts.over_at DrawingParts.edge_row Examples.factorial Examples.field Examples.entry_of Examples.file_of Examples.skip_over Examples.two_guards Examples.prefix Examples.graphs Examples.exits Examples.limits Examples.inputs Examples.adding Examples.true_with Examples.jump_only Examples.jump_in_two Examples.arrow Examples.adding_arrows Examples.loops Examples.loose_jumps Examples.condition_row Examples.condition_rows Examples.three_left Examples.three_right Examples.one_in_other Examples.selections Examples.cases Prepared.numbers_at Prepared.entries_in Prepared.size_in Prepared.cell_in Prepared.number_in Prepared.arith_in Prepared.number_of Prepared.leaf_cell Prepared.edge_in Prepared.source_in Prepared.target_in Prepared.performed Prepared.guard_form Prepared.is_guard_node Prepared.own_in Prepared.guards_in Prepared.meaning_after Prepared.edge_meaning Prepared.action_form Prepared.action_in Prepared.decoded_meaning Prepared.lowest_from Prepared.first_in Prepared.next_in GraphingParts.edge_words GraphingParts.strip GraphingParts.guard_kind GraphingParts.guard_entry GraphingParts.edge_strip Preparing.fourth_in LinkingParts.linked_one DrawingParts.rows_in Guards.all_false Below.definitions
definitions = tt
