-- `Runner::run_copied`: the run in the copied memory.
use native.Mathlib.Omega.{arith}
use Rattle.semantics.proofs.Alike.{ends_copied}
use Rattle.semantics.proofs.running.Runner.run_copied.Goals as goal

pub returns : goal.returns
returns c ns g p room =
    let at = c.copy_in.ensures ns p.coded in
    ends_copied p c.args.budget _ room _ _ _ _ at (c.run_array-ended.ensures ns g p at.numbers) (c.copy_back.ensures (omega (arith, room, p.coded.most)))
