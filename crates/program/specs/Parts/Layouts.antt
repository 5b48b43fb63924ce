-- The heads and the layout of a file, as the code hands them on. No public contract cites these.
use Rattle.std.specs.Prelude.{◌≡◌, List, ℕ, ◌≤◌, length}
use Rattle.program.specs.File.{table_field, field_head, layout_of, span_of}
use Rattle.program.specs.declared.FieldHeads.{FieldHeads}
use Rattle.program.specs.declared.Layout.{Layout}
use Rattle.program.specs.declared.Table.{Table}

-- the four heads that a layout is worked out from, and what stands after the four fields
unfoldable pub heads_of : List ℕ → FieldHeads
heads_of s = record { names = field_head s 0; arithmetic = field_head s 1; boolean = field_head s 2; commands = field_head s 3; initial = field_head s 4 }

-- a layout is the file's, each table starts inside the file and has as many entries as allowed, and there is a command
pub record LaidOut (s : List ℕ) (l : Layout) : Type 0 where
  pub same : l ≡ layout_of s
  pub inside : (t : Table) → (span_of l t).start ≤ length s
  pub few : (t : Table) → (span_of l t).count ≤ (table_field t).most
  pub some : 1 ≤ l.commands.count
