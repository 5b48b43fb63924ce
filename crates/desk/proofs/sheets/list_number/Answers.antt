-- `sheets::list_number`.
use Rattle.analysis.specs.Records.{list_number}
use Rattle.desk.proofs.sheets.list_number.Goals as goal

pub returns-in-Initial : goal.returns-in-Initial
unfolding list_number
returns-in-Initial c = rw c.in-Initial.is

pub returns-in-Solution : goal.returns-in-Solution
unfolding list_number
returns-in-Solution c = rw c.in-Solution.is
