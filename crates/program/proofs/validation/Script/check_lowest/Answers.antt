-- `program::validation::Script::check_lowest` meets its contract.
use mathlib.Core.Path.{refl}
use native.Mathlib.Omega.{arith}
use Rattle.program.specs.File.{span_of}
use Rattle.program.specs.declared.Table.TheVariants.{Commands}
use Rattle.program.proofs.Loose.{last_lowest, asked_lowest}
use Rattle.program.proofs.Reading.{laid_count, laid_start, entry_in}
use Rattle.program.proofs.validation.Script.check_lowest.Goals as goal

pub overflow_add-self : goal.overflow_add-self
unfolding span_of
overflow_add-self c = record { fits = omega (arith, c.args.self.laid_out.inside Commands) }

pub returns : goal.returns
unfolding span_of
returns c =
    asked_lowest c.args.self.bytes.now (last_lowest c.args.self.laid_out c.lowest-found.ensures)
    (rw (← laid_count _ _ c.args.self.laid_out.same Commands, ← entry_in _ Commands _ _ c.lowest-found.result (laid_start _ _ c.args.self.laid_out.same Commands) refl) c.ask.ensures)
