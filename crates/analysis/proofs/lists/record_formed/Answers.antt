-- `lists::record_formed`: the node's question, then the memory's.
use Rattle.std.proofs.Common.{◌≡◌, ltb, sym, ◌∙◌}
use Rattle.program.specs.Asking.{ask}
use Rattle.program.specs.File.{word_at}
use Rattle.program.proofs.Asking.{raised, passed}
use Rattle.analysis.specs.Parts.RecordParts.{record_formed}
use Rattle.analysis.proofs.lists.record_formed.Goals as goal
use Rattle.analysis.proofs.lists.record_formed.Goals.{After-ask}

-- the node's question
asked : (c : After-ask) → let a = c.args in c.ask.result ≡ ask (ltb (word_at a.bytes.now a.at) a.nodes) 17 a.at
asked c = c.ask.ensures ∙ rw c.word_at.ensures

pub returns-in_err-ask : goal.returns-in_err-ask
unfolding record_formed
returns-in_err-ask c ns y = raised _ _ (asked (goal.at.returns-in_err-ask c).After-ask) c.from_residual.ensures.1 c.in_err-ask.was

pub returns : goal.returns
unfolding record_formed
returns c ns y = passed (sym (asked (goal.at.returns c).After-ask) ∙ c.in_ok-ask.was) (c.memory_formed.ensures ns y)
