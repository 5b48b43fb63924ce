-- `sheets::of_mark`: by the mark's cases.
use Rattle.desk.specs.Parts.Heads.{mark_head}
use Rattle.desk.proofs.sheets.of_mark.Goals as goal

pub returns-in-Clean : goal.returns-in-Clean
unfolding mark_head
returns-in-Clean c = rw c.in-Clean.is

pub returns-in-Unclean : goal.returns-in-Unclean
unfolding mark_head
returns-in-Unclean c = rw c.in-Unclean.is
