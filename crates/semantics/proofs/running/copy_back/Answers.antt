-- `running::copy_back`: the cells copied are all of the memory's.
use mathlib.Core.Path.{◌≡◌}
use native.Mathlib.Omega.{arith}
use lib.ListN.{length}
use Rattle.std.proofs.lemmas.List.{drop_all, append-nil}
use Rattle.semantics.proofs.Padding.{front_taken}
use Rattle.semantics.proofs.running.copy_back.Goals as goal

pub returns : goal.returns
returns c few =
    let whole : c.min-end.result ≡ length c.args.memory.now = omega arith in
    rw (c.copy_from_slice.ensures.after, whole, drop_all (length c.args.memory.now) c.args.memory.now (omega arith), append-nil) (front_taken _ _ (omega arith))
