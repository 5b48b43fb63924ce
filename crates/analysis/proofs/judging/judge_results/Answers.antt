-- `judging::judge_results`: the first result that is missing, or the index mark.
use Rattle.std.proofs.Common.{sym, refl, ap, ◌∙◌}
use Rattle.analysis.specs.Parts.Judging.{picks, any_missing}
use Rattle.analysis.specs.Verdict.{missing_result, verdict_by}
use Rattle.analysis.specs.declared.Verdict.TheVariants.{Accepted}
use Rattle.analysis.proofs.judging.judge_results.Goals as goal

pub returns-in-Some : goal.returns-in-Some
unfolding missing_result picks any_missing verdict_by
returns-in-Some c ns g x = rw (sym (c.first_spot-spot.ensures ns g x) ∙ c.in-Some.is)

pub returns-in-None : goal.returns-in-None
unfolding missing_result picks any_missing verdict_by
returns-in-None c ns g x =
    rw (sym (c.first_spot-spot.ensures ns g x) ∙ c.in-None.is)
    (ap Accepted (c.mark_of.ensures ns g (record { prepared = x.prepared; formed = x.formed; filled = λ q. x.filled refl })))
