-- The cycle of calls {`program::validation::Script::lowest`}: a part is lower than what it is a part of, so the measure is `bound`.
use Prim.Native.Nat.{ℕ, ◌<◌}
use mathlib.Core.Path.{◌≡◌, refl, ap, ◌∙◌}
use mathlib.Core.Logic.{inl, inr}
use native.Mathlib.Omega.{arith}
use Rattle.program.specs.File.{entry}
use Rattle.program.specs.Parts.GraphingParts.{part_at}
use Rattle.program.specs.Parts.Jumping.{lowest}
use Rattle.program.specs.Parts.Node.{command_tree}
use Rattle.program.specs.Syntax.{Command}
use Rattle.program.specs.Tree.{command_made}
use Rattle.program.specs.declared.CommandNode.{CommandNode}
use Rattle.program.proofs.Forms.{CommandParts, command_told, command_lower}
use Rattle.program.proofs.validation.Script.+lowest.Goals as goal
use Rattle.program.proofs.validation.Script.+lowest.Goals.{After-command_at}

-- a part is lower
under : (t : ℕ) (c : After-command_at t) {k : CommandNode} → c.command_at.result ≡ k → CommandParts k → c.args.n < t
under t c told parts = omega (arith, command_lower _ _ _ c.command_at.ensures told parts)

-- the lowest is that of what the entry is
by_entry : (t : ℕ) (c : After-command_at t) {k : CommandNode} {r : ℕ} → c.command_at.result ≡ k
    → r ≡ lowest (command_tree (entry c.args.self.now.bytes.now) c.args.n k) c.args.found
    → r ≡ lowest (part_at (entry c.args.self.now.bytes.now) c.args.bound c.args.n) c.args.found
by_entry t c told e = rw (command_told _ _ _ c.command_at.ensures told) e

-- of two parts, what is found in the first goes into the second
both_parts : (c d : Command) (found : ℕ) {a b : ℕ} → a ≡ lowest c found → b ≡ lowest d a → b ≡ lowest d (lowest c found)
both_parts c d found e f = f ∙ ap (lowest d) e

pub lowest-requires : goal.lowest-requires
lowest-requires t c =
    let p = (goal.at.lowest-requires t c).After-command_at in
    (elim c.in-Conditional.is [ inl e ↦ under t p e tt | inr (x, e) ↦ under t p e tt ], tt)

pub lowest-first-requires : goal.lowest-first-requires
lowest-first-requires t c =
    let p = (goal.at.lowest-first-requires t c).After-command_at in
    (elim c.in-Sequence.is [ inl e ↦ under t p e tt | inr e ↦ under t p e tt ], tt)

pub lowest-requires-in-Sequence : goal.lowest-requires-in-Sequence
lowest-requires-in-Sequence t c =
    let p = (goal.at.lowest-requires-in-Sequence t c).After-command_at in
    (elim c.in-Sequence.is [ inl e ↦ under t p e tt | inr e ↦ under t p e tt ], tt)

pub returns-in-Sequence : goal.returns-in-Sequence
unfolding command_made lowest
returns-in-Sequence t c =
    let p = (goal.at.returns-in-Sequence t c).After-command_at in
    let part = part_at (entry c.args.self.now.bytes.now) c.args.n in
    let told = both_parts (part c.in-Sequence.p) (part c.in-Sequence.q) _ c.lowest-first.ensures c.lowest-in-Sequence.ensures in
    elim c.in-Sequence.is [ inl e ↦ by_entry t p e told | inr e ↦ by_entry t p e told ]

pub returns-in-Conditional : goal.returns-in-Conditional
unfolding command_made lowest
returns-in-Conditional t c =
    let p = (goal.at.returns-in-Conditional t c).After-command_at in
    elim c.in-Conditional.is [ inl e ↦ by_entry t p e c.lowest.ensures | inr (x, e) ↦ by_entry t p e c.lowest.ensures ]

pub returns-in-Jump : goal.returns-in-Jump
unfolding command_made lowest
returns-in-Jump t c = by_entry t (goal.at.returns-in-Jump t c).After-command_at c.in-Jump.is c.min.ensures

pub returns-in-Skip : goal.returns-in-Skip
unfolding command_made lowest
returns-in-Skip t c =
    let p = (goal.at.returns-in-Skip t c).After-command_at in
    elim c.in-Skip.is [
      | inl e ↦ by_entry t p e refl
      | inr (inl (x, a, e)) ↦ by_entry t p e refl
      | inr (inr (inl (x, i, a, e))) ↦ by_entry t p e refl
      | inr (inr (inr (x, e))) ↦ by_entry t p e refl
    ]
