-- `program::validation::Script::check_jumps` meets its contract.
use native.Mathlib.Omega.{arith}
use Rattle.program.specs.declared.Table.TheVariants.{Commands}
use Rattle.program.proofs.Reading.{laid_count}
use mathlib.Core.Path.{sym}
use Rattle.program.specs.File.{span_of}
use Rattle.program.proofs.Loose.{no_jumps}
use Rattle.program.proofs.validation.Script.check_jumps.Goals as goal

pub returns-then-not-noted : goal.returns-then-not-noted
unfolding span_of
returns-then-not-noted c =
    sym (no_jumps c.args.self.bytes.now (omega (arith, c.args.self.laid_out.some, laid_count _ _ c.args.self.laid_out.same Commands)) (c.requires c.if-not-noted.true))
