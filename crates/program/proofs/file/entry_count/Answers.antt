-- `program::file::entry_count` meets its contract.
use mathlib.Core.Path.{ap, ◌∙◌}
use Rattle.program.specs.File.{span_of, entry_count}
use Rattle.program.specs.declared.Layout.{Layout}
use Rattle.program.specs.declared.Span.{Span}
use Rattle.program.proofs.file.entry_count.Goals as goal

pub returns : goal.returns
unfolding entry_count
returns c = ap (λ (x : Span). x.count) (c.span_of-span.ensures ∙ ap (λ (l : Layout). span_of l c.args.table) c.layout.ensures)
