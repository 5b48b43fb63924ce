-- `program::file::entry` meets its contract.
use Prim.Native.Nat.{ℕ, ◌+◌, ◌*◌}
use mathlib.Core.Path.{ap, ◌∙◌, ◌≡◌}
use native.Mathlib.Omega.{arith}
use Rattle.program.specs.File.{entry_at, layout_of, span_of, entry, table_start, entry_offset}
use Rattle.program.specs.declared.Layout.{Layout}
use Rattle.program.specs.declared.Span.{Span}
use Rattle.program.proofs.Reading.{entry_past}
use Rattle.program.proofs.file.entry.Goals as goal

pub returns-then-start-s : goal.returns-then-start-s
unfolding entry entry_offset table_start
returns-then-start-s c =
    let a = c.args in
    let start : c.span_of-span.result.start ≡ (span_of (layout_of a.s.now) a.table).start = ap (λ (x : Span). x.start) (c.span_of-span.ensures ∙ ap (λ (l : Layout). span_of l a.table) c.layout.ensures) in
    c.entry_at.ensures ∙ ap (λ (k : ℕ). entry_at a.s.now (k + 7 * a.n)) start

pub returns-else-start-s : goal.returns-else-start-s
unfolding entry entry_offset table_start
returns-else-start-s c =
    let a = c.args in
    let start : c.span_of-span.result.start ≡ (span_of (layout_of a.s.now) a.table).start = ap (λ (x : Span). x.start) (c.span_of-span.ensures ∙ ap (λ (l : Layout). span_of l a.table) c.layout.ensures) in
    entry_past _ _ (omega arith) c.default.ensures
