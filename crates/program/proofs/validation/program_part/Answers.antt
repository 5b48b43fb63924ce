-- `program::validation::program_part` meets its contract.
use mathlib.Core.Path.{◌∙◌, ap}
use Prim.Native.Nat.{ℕ}
use lib.ListN.{take}
use Rattle.program.specs.Parts.Layouts.{heads_of}
use Rattle.program.specs.File.{after_head, field_head, place_after}
use Rattle.program.specs.Questions.{program_part}
use Rattle.program.specs.declared.FieldHeads.{FieldHeads}
use Rattle.program.proofs.validation.program_part.Goals as goal

pub returns : goal.returns
unfolding program_part heads_of field_head place_after
returns c = c.part.ensures ∙ ap (λ (n : ℕ). take n c.args.s.now) (c.after.ensures ∙ ap (λ (h : FieldHeads). after_head h.commands) c.heads-h.ensures)
