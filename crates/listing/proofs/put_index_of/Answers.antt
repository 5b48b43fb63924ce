-- `put_index_of`: the mark that comes back, put.
use mathlib.Core.Path.{◌≡◌}
use Rattle.program.specs.File.{sizes}
use Rattle.program.specs.Graph.{graph}
use Rattle.program.specs.declared.Construction.TheVariants.{Nondeterministic}
use Rattle.analysis.specs.Verdict.{index_mark}
use Rattle.listing.specs.Parts.Writing.{index_of}
use Rattle.listing.proofs.Printed.{mark_told_lem, never_unreadable}
use Rattle.listing.proofs.put_index_of.Goals as goal
use Rattle.listing.proofs.put_index_of.Goals.{In-Ok}

told : (c : In-Ok) → (c.in-Ok.mark ≡ index_mark (sizes c.args.program.now) (graph Nondeterministic c.args.program.now) c.args.list.now)
told c = mark_told_lem c.args.program.now c.args.list.now c.requires.0 c.index_mark.ensures.value c.in-Ok.is

pub put_index-requires : goal.put_index-requires
unfolding index_of
put_index-requires c = rw (told (goal.at.put_index-requires c).In-Ok) c.requires.1

pub returns-in-Ok : goal.returns-in-Ok
unfolding index_of
returns-in-Ok c = rw (told (goal.at.returns-in-Ok c).In-Ok) at c.put_index.ensures

pub returns-in-Err : goal.returns-in-Err
returns-in-Err c = never_unreadable c.args.program.now c.args.list.now c.requires.0 c.index_mark.ensures.value c.in-Err.is
