-- `program::validation::Script::command_kind` meets its contract.
use mathlib.Core.Path.{refl, ◌∙◌, ap}
use native.Mathlib.Omega.{arith}
use Rattle.program.specs.File.{byte_at, span_of, entry, entry_at}
use Rattle.program.specs.declared.Table.TheVariants.{Commands}
use Rattle.program.proofs.Reading.{laid_start, entry_in}
use Rattle.program.proofs.validation.Script.command_kind.Goals as goal

pub overflow_add-self : goal.overflow_add-self
unfolding span_of
overflow_add-self c = record { fits = omega (arith, c.args.self.laid_out.inside Commands) }

pub returns : goal.returns
unfolding entry entry_at span_of
returns c =
    c.byte_at.ensures ∙ ap (byte_at c.args.self.bytes.now) (entry_in _ Commands _ _ _ (laid_start _ _ c.args.self.laid_out.same Commands) refl)
