-- How a call went, by what its operation answered. No public contract cites these.
use Rattle.program.specs.Asking.{Validity}
use Rattle.std.specs.Prelude.{ℕ, ◌+◌, ◌*◌, List, [], ◌∷◌, replicate, Result, Err, Ok}
use Rattle.signs.specs.Number.{reason_number}
use Rattle.semantics.specs.declared.Ending.{Ending}
use Rattle.semantics.specs.declared.Ending.TheVariants.{Arrived, Spent, Stuck, Refused as Halts}
use Rattle.semantics.specs.declared.Outcome.{Outcome}
use Rattle.semantics.specs.declared.Outcome.TheVariants.{Taken, Undefined, Refused as Refuses}
use Rattle.analysis.specs.Records.{list_number}
use Rattle.analysis.specs.declared.Mark.{Mark}
use Rattle.analysis.specs.declared.Mark.TheVariants.{Clean, Unclean}
use Rattle.analysis.specs.declared.Unreadable.{Unreadable}
use Rattle.analysis.specs.declared.Unreadable.TheVariants.{Refused as Unasked, Malformed as Unfit}
use Rattle.analysis.specs.declared.Solving.{Solving}
use Rattle.analysis.specs.declared.Solving.TheVariants.{Finished, Full}
use Rattle.analysis.specs.declared.Verdict.{Verdict}
use Rattle.analysis.specs.declared.Verdict.TheVariants.{InitialMissing, ResultMissing, Accepted}
use Rattle.desk.specs.Rows.{clean, unclean}
use Rattle.desk.specs.declared.Head.{Head}
use Rattle.desk.specs.declared.Head.TheVariants.{Answered, Refused as Declined, Malformed}

unfoldable pub validity_head : Validity → Head
validity_head (Ok _) = Answered 0
validity_head (Err x) = Declined x.number x.offset

unfoldable pub outcome_head : Outcome → Head
outcome_head Taken = Answered 0
outcome_head (Undefined f) = Answered (reason_number f.reason)
outcome_head (Refuses x) = Declined x.number x.offset

unfoldable pub ending_head : Ending → Head
ending_head Arrived = Answered 0
ending_head Spent = Answered 1
ending_head Stuck = Answered 2
ending_head (Halts x) = Declined x.number x.offset

unfoldable pub unreadable_head : Unreadable → Head
unreadable_head (Unasked x) = Declined x.number x.offset
unreadable_head (Unfit w) = Malformed (list_number w.list) w.offset

unfoldable pub verdict_head : Result Verdict Unreadable → Head
verdict_head (Err x) = unreadable_head x
verdict_head (Ok (InitialMissing k)) = Answered 41
verdict_head (Ok (ResultMissing k e)) = Answered 42
verdict_head (Ok (Accepted mark)) = Answered 0

unfoldable pub mark_head : Mark → Head
mark_head Clean = Answered clean
mark_head (Unclean k e) = Answered unclean

unfoldable pub marking_head : Result Mark Unreadable → Head
marking_head (Err x) = unreadable_head x
marking_head (Ok mark) = mark_head mark

unfoldable pub solving_head : Solving → Head
solving_head Finished = Answered 0
solving_head Full = Declined 18 0

-- the numbers behind a verdict's head, in a program with so many names, and behind an index mark's
unfoldable pub verdict_behind : ℕ → Result Verdict Unreadable → List ℕ
verdict_behind names (Err x) = replicate 7 0
verdict_behind names (Ok (InitialMissing k)) = k ∷ 0 ∷ (names * k) ∷ names ∷ 0 ∷ 0 ∷ 0 ∷ []
verdict_behind names (Ok (ResultMissing k e)) = k ∷ e ∷ ((2 + names) * k) ∷ (2 + names) ∷ 0 ∷ 0 ∷ 0 ∷ []
verdict_behind names (Ok (Accepted Clean)) = 0 ∷ 0 ∷ 0 ∷ 0 ∷ clean ∷ 0 ∷ 0 ∷ []
verdict_behind names (Ok (Accepted (Unclean k e))) = 0 ∷ 0 ∷ 0 ∷ 0 ∷ unclean ∷ k ∷ e ∷ []

unfoldable pub mark_behind : Result Mark Unreadable → List ℕ
mark_behind (Err x) = replicate 2 0
mark_behind (Ok Clean) = replicate 2 0
mark_behind (Ok (Unclean k e)) = k ∷ e ∷ []
