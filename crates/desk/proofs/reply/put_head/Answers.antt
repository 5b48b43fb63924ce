-- `reply::put_head`: by how the call went.
use borrow.Author.Rules.{rules}
use mathlib.Core.Path.{refl, ◌∙◌}
use mir.Syntax.{w32, w64}
use Rattle.std.proofs.lemmas.Int.{to_z_pos}
use Rattle.desk.specs.Reply.{answered_with, refused_with, malformed_with, tell}
use Rattle.desk.proofs.reply.put_head.Goals as goal

pub returns-in-Answered : goal.returns-in-Answered
unfolding tell answered_with
returns-in-Answered c =
    rw c.in-Answered.is (refl, c.put_three.ensures ∙ rw (to_z_pos w64 c.in-Answered.answer (search rules)))

pub returns-in-Refused : goal.returns-in-Refused
unfolding tell refused_with
returns-in-Refused c =
    rw c.in-Refused.is (to_z_pos w32 c.in-Refused.number (search rules), c.put_three-in-Refused.ensures ∙ rw (to_z_pos w64 c.in-Refused.place (search rules)))

pub returns-in-Malformed : goal.returns-in-Malformed
unfolding tell malformed_with
returns-in-Malformed c =
    rw c.in-Malformed.is (refl, c.put_three-in-Malformed.ensures ∙ rw (to_z_pos w64 c.in-Malformed.list (search rules), to_z_pos w64 c.in-Malformed.place (search rules)))
