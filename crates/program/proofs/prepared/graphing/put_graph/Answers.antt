-- `program::prepared::graphing::put_graph`: the commands, the edges drawn, the counts.
use native.Mathlib.Omega.{arith}
use Rattle.program.proofs.Graphs.{Within, commands_within, program_room, graph_filled}
use Rattle.program.proofs.prepared.graphing.put_graph.Goals as goal
use Rattle.program.proofs.prepared.graphing.put_graph.Goals.{Start}

-- where the commands are
within : (c : Start) → Within c.args.program.now c.args.l.commands
within c = commands_within c.args.construction _ c.requires.0 _ c.requires.1

pub put_table-requires : goal.put_table-requires
put_table-requires c =
    let here = within (goal.at.put_table-requires c).Start in
    (here.there, omega (arith, here.few))

pub overflow_sub-count : goal.overflow_sub-count
overflow_sub-count c = (within (goal.at.overflow_sub-count c).Start).some

pub draw_part-pen-requires : goal.draw_part-pen-requires
draw_part-pen-requires c =
    program_room _ _ c.requires.0 _ c.requires.1 (rw c.requires.2 at c.put_table.ensures)

pub returns : goal.returns
returns c =
    graph_filled _ _ c.requires.0 _ c.requires.1 (rw c.requires.2 at c.put_table.ensures) c.draw_part-pen.ensures
