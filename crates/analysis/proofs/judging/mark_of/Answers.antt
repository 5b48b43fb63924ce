-- `judging::mark_of`: what is found without the earlier guards, or nothing.
use Rattle.std.proofs.Common.{sym, ap, ◌∙◌}
use Rattle.analysis.specs.Parts.Judging.{picks}
use Rattle.analysis.specs.Verdict.{mark_of}
use Rattle.analysis.proofs.Marks.{own_mark}
use Rattle.analysis.proofs.Widest.{none_negative}
use Rattle.analysis.proofs.judging.mark_of.Goals as goal

pub returns-then-ever_negative : goal.returns-then-ever_negative
unfolding picks
returns-then-ever_negative c ns g x = c.mark_at.ensures ∙ ap mark_of (c.first_spot-negative.ensures ns g x) ∙ sym (own_mark g (λ e h. (x.prepared.edge e h).follows) ns _)

pub returns : goal.returns
unfolding picks mark_of
returns c ns g x =
    sym (own_mark g (λ e h. (x.prepared.edge e h).follows) ns _ ∙ ap mark_of (none_negative x.prepared _ (c.ever_negative.ensures c.if-ever_negative.false)))
