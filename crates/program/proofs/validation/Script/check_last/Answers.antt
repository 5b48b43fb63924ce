-- `program::validation::Script::check_last` meets its contract.
use mathlib.Core.Path.{◌∙◌, ap}
use native.Mathlib.Omega.{arith}
use Rattle.program.specs.Asking.{ask}
use Rattle.program.specs.File.{byte_at, span_of, entry, entry_at}
use Rattle.program.specs.Kind.{is_command}
use Rattle.program.specs.Questions.{to_be_used, last_validity}
use Rattle.program.specs.Tree.{last_command}
use Rattle.program.specs.declared.Table.TheVariants.{Commands}
use Rattle.program.proofs.Reading.{laid_count, laid_start, entry_in}
use Rattle.program.proofs.validation.Script.check_last.Goals as goal

pub overflow_add-at : goal.overflow_add-at
unfolding span_of
overflow_add-at c = record { fits = omega (arith, c.args.self.laid_out.inside Commands) }

pub returns : goal.returns
unfolding last_validity last_command entry entry_at span_of to_be_used
returns c =
    let last = c.to_be_used-last.ensures ∙ ap (to_be_used Commands) (laid_count _ _ c.args.self.laid_out.same Commands) in
    let at = entry_in _ Commands _ _ _ (laid_start _ _ c.args.self.laid_out.same Commands) last in
    c.ask.ensures ∙ (λ i. ask ((c.is_command.ensures ∙ ap is_command (c.byte_at.ensures ∙ ap (byte_at c.args.self.bytes.now) at)) i) 11 (at i))
