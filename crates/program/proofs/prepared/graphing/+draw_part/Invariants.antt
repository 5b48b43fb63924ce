-- The cycle of calls {`program::prepared::graphing::draw_part`}: a part is lower than what it is a part of, so the measure is `bound`.
use Rattle.program.proofs.prepared.graphing.+draw_part.Given as goal

abbrev pub decreases-draw_part : goal.decreases-draw_part
decreases-draw_part l = l.bound
