-- `Machine::operate`: what is behind the code is the table.
use Rattle.std.proofs.Common.{◌∙◌}
use Rattle.analysis.proofs.Tables.{table_read}
use Rattle.analysis.proofs.evaluator.Machine.operate.Goals as goal

pub returns : goal.returns
returns c = c.operate_by.ensures ∙ table_read c.args.self.tabled _ _ _
