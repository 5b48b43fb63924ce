-- `Lookup::listed`: the record is among those of the solution.
use Rattle.std.proofs.Common.{◌<◌, ◌∙◌, rules}
use Rattle.analysis.proofs.Searching.{has_found}
use Rattle.analysis.proofs.judging.Lookup.listed.Goals as goal
use Rattle.analysis.proofs.judging.Lookup.listed.Goals.{Start}

low : (c : Start) → c.args.change.node < 65536
low c = search rules

pub find-requires : goal.find-requires
find-requires c =
    let s = c.args.self.now.ordered in
    (s.count, record { indexed = s.indexed; hashed = c.hash_changed-h.ensures })

pub returns : goal.returns
returns c ns ρ e x y =
    c.find.ensures _ (record { indexed = x; hashed = c.hash_changed-h.ensures })
    ∙ has_found x ns e c.args.self.now.bytes _ (low (goal.at.returns c).Start) y c.args.self.now.ordered.weighed.front
