-- The program file: numbers, fields and entries (document 01, "The script file"). All reading is total: a byte past the end is 0.
use Rattle.std.specs.Prelude.{ℕ, zero, suc, ◌+◌, ◌*◌, ◌/◌, ◌-◌, Bool, cond, ◌&&◌, eqb, leb, ltb, length, get_or, take, drop, ℤ, pos, negsuc, Result, Ok, Err}
use mathlib.Core.List.{List, [], ◌∷◌, map, sum}
use Rattle.signs.specs.Lists.{tabulate}
use Rattle.program.specs.declared.Entry.{Entry}
use Rattle.program.specs.declared.Field.{Field}
use Rattle.program.specs.declared.FieldHead.{FieldHead}
use Rattle.program.specs.declared.Layout.{Layout}
use Rattle.program.specs.declared.Span.{Span}
use Rattle.program.specs.declared.Table.{Table}
use Rattle.program.specs.declared.Table.TheVariants.{Arithmetic, Boolean, Commands}

unfoldable pub byte_at : List ℕ → ℕ → ℕ
byte_at s i = get_or s i 0

-- "All numbers have the high byte first."
unfoldable pub word_at : List ℕ → ℕ → ℕ
word_at s i = byte_at s i * 256 + byte_at s (i + 1)

-- "32-bit two's complement"
unfoldable pub signed32 : ℕ → ℤ
signed32 n = cond (ltb n 2147483648) (pos n) (negsuc (4294967295 - n))

-- "Tag 1, names: 1 to 32 entries of two bytes."
unfoldable pub names_field : Field
names_field = record { tag = 1; width = 2; least = 1; most = 32 }

-- "Tag 2, arithmetic: 0 to 512 entries. Tag 3, boolean: 0 to 256. Tag 4, commands: 1 to 256. Each entry has seven bytes"
abbrev pub table_tag : Table → ℕ
table_tag Arithmetic = 2
table_tag Boolean = 3
table_tag Commands = 4

unfoldable pub table_field : Table → Field
table_field Arithmetic = record { tag = table_tag Arithmetic; width = 7; least = 0; most = 512 }
table_field Boolean = record { tag = table_tag Boolean; width = 7; least = 0; most = 256 }
table_field Commands = record { tag = table_tag Commands; width = 7; least = 1; most = 256 }

-- "Four fields in order, tags 1 to 4"
unfoldable pub program_fields : List Field
program_fields = names_field ∷ table_field Arithmetic ∷ table_field Boolean ∷ table_field Commands ∷ []

-- "a field of tag 5 with the start list (0 to 512 records)", a record one byte per name: the fifth field after a program with so many names
unfoldable pub initial_field : ℕ → Field
initial_field names = record { tag = 5; width = names; least = 0; most = 512 }

-- "one-byte tag, two-byte length, content": the head that stands at a place, with where its content and the next field start
unfoldable pub head_found : List ℕ → ℕ → FieldHead
head_found s at = record { start = at; tag = byte_at s at; length = word_at s (at + 1); content = at + 3; next = at + 3 + word_at s (at + 1) }

-- what stands at a place of a file: the head of a field, or, where fewer bytes are left than a head has, the place
abbrev pub Head : Type 0
Head = Result FieldHead ℕ

-- "Are three bytes left for its head?": what the field reader finds at a place
unfoldable pub head_at : List ℕ → ℕ → Head
head_at s at = cond (leb (at + 3) (length s)) (Ok (head_found s at)) (Err at)

-- where the reader goes from there. It stays where no head stands; question 1 is no there, so no answer to the questions depends on a place
-- further on
unfoldable pub after_head : Head → ℕ
after_head (Err at) = at
after_head (Ok h) = h.next

-- where the reader is k fields after a place
unfoldable pub place_after : List ℕ → ℕ → ℕ → ℕ
place_after s at zero = at
place_after s at (suc k) = after_head (head_at s (place_after s at k))

-- where the field with k fields before it starts, and what the reader finds there
abbrev pub field_start : List ℕ → ℕ → ℕ
field_start s k = place_after s 0 k

unfoldable pub field_head : List ℕ → ℕ → Head
field_head s k = head_at s (field_start s k)

-- the content of a field: where it starts, and how many entries it has
unfoldable pub head_span : Head → Field → Span
head_span (Err at) f = record { start = at; count = 0 }
head_span (Ok h) f = record { start = h.content; count = h.length / f.width }

-- the same as bytes, as far as they are there
unfoldable pub head_content : List ℕ → Head → List ℕ
head_content s (Err at) = []
head_content s (Ok h) = take h.length (drop h.content s)

unfoldable pub layout_of : List ℕ → Layout
layout_of s =
    record {
      names = head_span (field_head s 0) names_field;
      arithmetic = head_span (field_head s 1) (table_field Arithmetic);
      boolean = head_span (field_head s 2) (table_field Boolean);
      commands = head_span (field_head s 3) (table_field Commands);
    }

-- a table's part of a file
unfoldable pub span_of : Layout → Table → Span
span_of l Arithmetic = l.arithmetic
span_of l Boolean = l.boolean
span_of l Commands = l.commands

-- the number of names, where name i stands, and the sizes of the names: "0 is a variable, 1 to 64 an array of that size"
unfoldable pub name_count : List ℕ → ℕ
name_count s = (layout_of s).names.count

unfoldable pub name_offset : ℕ → ℕ
name_offset i = 3 + 2 * i

unfoldable pub size_at : List ℕ → ℕ → ℕ
size_at s i = word_at s (name_offset i)

unfoldable pub sizes : List ℕ → List ℕ
sizes s = tabulate (name_count s) (size_at s)

-- a name that is there, of a variable and of an array, where the names have the sizes ns
unfoldable pub is_variable : List ℕ → ℕ → Bool
is_variable ns x = ltb x (length ns) && eqb (get_or ns x 0) 0

unfoldable pub is_array : List ℕ → ℕ → Bool
is_array ns x = ltb x (length ns) && ltb 0 (get_or ns x 0)

-- the number of entries of a table, where they start, and where entry n stands
unfoldable pub entry_count : List ℕ → Table → ℕ
entry_count s t = (span_of (layout_of s) t).count

unfoldable pub table_start : List ℕ → Table → ℕ
table_start s t = (span_of (layout_of s) t).start

unfoldable pub entry_offset : List ℕ → Table → ℕ → ℕ
entry_offset s t n = table_start s t + 7 * n

-- "a kind and three two-byte operands P, Q, R": the entry at a place, and entry n of a table
unfoldable pub entry_at : List ℕ → ℕ → Entry
entry_at s at = record { kind = byte_at s at; p = word_at s (at + 1); q = word_at s (at + 3); r = word_at s (at + 5) }

unfoldable pub entry : List ℕ → Table → ℕ → Entry
entry s t n = entry_at s (entry_offset s t n)

-- "A memory has one cell for a variable and one per element, in name order": the cells of a size, of all names, and before a name
unfoldable pub cells_of : ℕ → ℕ
cells_of size = cond (eqb size 0) 1 size

unfoldable pub cell_count : List ℕ → ℕ
cell_count ns = sum ◌+◌ 0 (map cells_of ns)

unfoldable pub first_cell : List ℕ → ℕ → ℕ
first_cell ns i = cell_count (take i ns)
