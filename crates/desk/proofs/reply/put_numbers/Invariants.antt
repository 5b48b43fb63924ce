-- `reply::put_numbers`: one number after another.
use mathlib.Core.Path.{◌≡◌}
use mathlib.Core.List.{map}
use lib.IntN.{pos}
use lib.Seq.{paste}
use Rattle.desk.proofs.reply.put_numbers.Given as goal

abbrev pub invariant-loop-i : goal.invariant-loop-i
invariant-loop-i l = l.reply ≡ paste l.initial.reply 3 (map pos l.numbers) l.i
