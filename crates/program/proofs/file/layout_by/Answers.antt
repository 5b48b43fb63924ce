-- `program::file::layout_by` meets its contract.
use mathlib.Core.Path.{◌∙◌}
use Rattle.program.specs.Parts.Layouts.{heads_of}
use Rattle.program.specs.File.{layout_of, head_span}
use Rattle.program.proofs.Reading.{names_wide, table_wide}
use Rattle.program.proofs.file.layout_by.Goals as goal

pub head_span-requires : goal.head_span-requires
head_span-requires c = names_wide c.names_field.ensures

pub head_span-requires-2 : goal.head_span-requires-2
head_span-requires-2 c = table_wide _ c.table_field.ensures

pub head_span-requires-3 : goal.head_span-requires-3
head_span-requires-3 c = table_wide _ c.table_field-2.ensures

pub head_span-requires-4 : goal.head_span-requires-4
head_span-requires-4 c = table_wide _ c.table_field-3.ensures

pub returns : goal.returns
unfolding heads_of layout_of
returns c =
    λ s e i.
    record {
      names = (c.head_span.ensures ∙ (λ j. head_span (e j).names (c.names_field.ensures j))) i;
      arithmetic = (c.head_span-2.ensures ∙ (λ j. head_span (e j).arithmetic (c.table_field.ensures j))) i;
      boolean = (c.head_span-3.ensures ∙ (λ j. head_span (e j).boolean (c.table_field-2.ensures j))) i;
      commands = (c.head_span-4.ensures ∙ (λ j. head_span (e j).commands (c.table_field-3.ensures j))) i;
    }
