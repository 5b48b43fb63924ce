-- `truth::conjoined`: the four combinations, by `conjoined_by`.
use Rattle.signs.proofs.Answers.{conjoined_by}
use Rattle.signs.proofs.truth.conjoined.Goals as goal

pub returns : goal.returns
returns c =
    let a = c.args in
    conjoined_by a.a a.b
