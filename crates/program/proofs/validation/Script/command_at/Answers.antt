-- `program::validation::Script::command_at` meets its contract.
use mathlib.Core.Path.{refl, ◌∙◌, ap}
use native.Mathlib.Omega.{arith}
use borrow.Author.Tests.{lt-ltb, le-ltb}
use Rattle.program.specs.File.{span_of}
use Rattle.program.specs.Kind.{command_kind}
use Rattle.program.specs.Parts.Node.{command_form}
use Rattle.program.specs.declared.Table.TheVariants.{Commands}
use Rattle.program.proofs.Reading.{laid_start, entry_read}
use Rattle.program.proofs.validation.Script.command_at.Goals as goal

pub returns-then-bound-n : goal.returns-then-bound-n
unfolding command_form
returns-then-bound-n c = rw (le-ltb _ _ c.if-bound-n.true)

pub overflow_add-self : goal.overflow_add-self
unfolding span_of
overflow_add-self c = record { fits = omega (arith, c.args.self.now.laid_out.inside Commands) }

pub returns : goal.returns
unfolding command_form span_of
returns c =
    rw (lt-ltb _ _ c.if-bound-n.false)
    (c.command_kind.ensures ∙ ap command_kind (entry_read _ Commands _ _ _ c.entry_at-e.ensures (laid_start _ _ c.args.self.now.laid_out.same Commands) refl))
