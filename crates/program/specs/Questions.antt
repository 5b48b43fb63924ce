-- Questions 1 to 11, of a program file and of the sheet program's input (document 01, "Questions asked, with the number when it is no"), and 20, which document 02's
-- order 7 asks after them.
use Rattle.std.specs.Prelude.{ℕ, zero, suc, ◌+◌, ◌/◌, ◌%◌, ◌-◌, Bool, true, false, not, cond, ◌&&◌, List, [], ◌∷◌, eqb, leb, ltb, length, take, Ok, Err}
use Rattle.program.specs.Asking.{ask, then_ask, in_turn, ask_each, validity_numbers, Validity}
use Rattle.program.specs.File.{table_tag, program_fields, initial_field, field_start, field_head, head_content, name_count, name_offset, size_at, sizes, entry_count, entry_offset, entry, cell_count, is_variable, is_array, Head}
use Rattle.program.specs.Jumps.{loose}
use Rattle.program.specs.Kind.{Role, Unused, Half, Variable, Array, To, Roles, Shape, Unknown, Known, shape, table_of, is_command, is_guarded}
use Rattle.program.specs.Tree.{last_command, script}
use Rattle.program.specs.declared.Entry.{Entry}
use Rattle.program.specs.declared.Field.{Field}
use Rattle.program.specs.declared.Sort.{Sort}
use Rattle.program.specs.declared.Sort.TheVariants.{Expression, Condition, Command, Guarded}
use Rattle.program.specs.declared.Table.{Table}
use Rattle.program.specs.declared.Table.TheVariants.{Arithmetic, Boolean, Commands}

-- "Is the length whole entries, as many as allowed?"
unfoldable pub whole_entries : Field → ℕ → Bool
whole_entries f len = eqb (len % f.width) 0 && leb f.least (len / f.width) && leb (len / f.width) f.most

-- "Are three bytes left for its head? 1. Is the tag the one due? 2. Is the length whole entries, as many as allowed? 3. Is all the content there? 4."
-- Asked of what the reader finds in a file of so many bytes. Their place is where the head starts
unfoldable pub head_validity : ℕ → Head → Field → Validity
head_validity end (Err at) f = ask false 1 at
head_validity end (Ok h) f =
    in_turn
    (ask (eqb h.tag f.tag) 2 h.start
    ∷ ask (whole_entries f h.length) 3 h.start
    ∷ ask (leb h.next end) 4 h.start
    ∷ [])

-- "For each field in turn", from the field with k fields before it
unfoldable pub heads_validity : List ℕ → ℕ → List Field → Validity
heads_validity s k [] = Ok tt
heads_validity s k (f ∷ fs) = then_ask (head_validity (length s) (field_head s k) f) (heads_validity s (suc k) fs)

-- "Then: does the file end after the fourth field? 5", after k fields; its place is the first extra byte
unfoldable pub end_validity : List ℕ → ℕ → Validity
end_validity s k = ask (eqb (field_start s k) (length s)) 5 (field_start s k)

-- "is the size 0 to 64 and the cell total so far at most 512? 6"
unfoldable pub name_validity : List ℕ → ℕ → Validity
name_validity s i = ask (leb (size_at s i) 64 && leb (cell_count (take (suc i) (sizes s))) 512) 6 (name_offset i)

-- "Are unused operands zero, and is a named name there and of the right sort?", of an operand x with its role
unfoldable pub named : List ℕ → Role → ℕ → Bool
named s Unused x = eqb x 0
named s Half x = true
named s Variable x = is_variable (sizes s) x
named s Array x = is_array (sizes s) x
named s (To sort) x = true

unfoldable pub same_table : Table → Table → Bool
same_table t u = eqb (table_tag t) (table_tag u)

-- "A reference inside one table goes to a lower entry; one to an earlier table goes to an entry that exists":
-- from entry n of table t to table u, the references below this number
unfoldable pub limit : List ℕ → Table → ℕ → Table → ℕ
limit s t n u = cond (same_table t u) n (entry_count s u)

-- "each operand names the sort its rule needs": whether entry x of a sort's table is of that sort
unfoldable pub of_sort : List ℕ → Sort → ℕ → Bool
of_sort s Expression x = true
of_sort s Condition x = true
of_sort s Command x = is_command (entry s Commands x).kind
of_sort s Guarded x = is_guarded (entry s Commands x).kind

-- "Do all references point as above?", of an operand x of entry n of table t, with its role
unfoldable pub points : List ℕ → Table → ℕ → Role → ℕ → Bool
points s t n Unused x = true
points s t n Half x = true
points s t n Variable x = true
points s t n Array x = true
points s t n (To sort) x = ltb x (limit s t n (table_of sort)) && of_sort s sort x

-- a test of each of an entry's operands
unfoldable pub each_operand : (Role → ℕ → Bool) → Roles → Entry → Bool
each_operand f x e = f x.p e.p && f x.q e.q && f x.r e.r

-- "Is the kind known? 7. Are unused operands zero, and is a named name there and of the right sort? 8. Do all references point as above? 9."
-- Their place is where the entry starts
unfoldable pub shape_validity : List ℕ → Table → ℕ → Shape → Validity
shape_validity s t n Unknown = ask false 7 (entry_offset s t n)
shape_validity s t n (Known x) =
    in_turn
    (ask (each_operand (named s) x (entry s t n)) 8 (entry_offset s t n)
    ∷ ask (each_operand (points s t n) x (entry s t n)) 9 (entry_offset s t n)
    ∷ [])

unfoldable pub entry_validity : List ℕ → Table → ℕ → Validity
entry_validity s t n = shape_validity s t n (shape t (entry s t n).kind)

unfoldable pub table_validity : List ℕ → Table → Validity
table_validity s t = ask_each (entry_count s t) (entry_validity s t)

-- how often an operand x with its role refers to entry n of table u: once or not
unfoldable pub refers_to : Table → ℕ → Role → ℕ → ℕ
refers_to u n Unused x = 0
refers_to u n Half x = 0
refers_to u n Variable x = 0
refers_to u n Array x = 0
refers_to u n (To sort) x = cond (same_table (table_of sort) u && eqb x n) 1 0

unfoldable pub shape_uses : Table → ℕ → Shape → Entry → ℕ
shape_uses u n Unknown e = 0
shape_uses u n (Known x) e = refers_to u n x.p e.p + refers_to u n x.q e.q + refers_to u n x.r e.r

-- how often entry m of table t refers to entry n of table u
unfoldable pub entry_uses : List ℕ → Table → ℕ → Table → ℕ → ℕ
entry_uses s u n t m = shape_uses u n (shape t (entry s t m).kind) (entry s t m)

-- how often the first k entries of table t do
unfoldable pub table_uses : List ℕ → Table → ℕ → Table → ℕ → ℕ
table_uses s u n t zero = 0
table_uses s u n t (suc k) = table_uses s u n t k + entry_uses s u n t k

-- how often entry n of table u is used
unfoldable pub uses : List ℕ → Table → ℕ → ℕ
uses s u n =
    table_uses s u n Arithmetic (entry_count s Arithmetic)
    + table_uses s u n Boolean (entry_count s Boolean)
    + table_uses s u n Commands (entry_count s Commands)

-- "is each entry of tags 2 to 4 but the last command used once? 10 (first in file order)"
unfoldable pub use_validity : List ℕ → Table → ℕ → Validity
use_validity s t n = ask (eqb (uses s t n) 1) 10 (entry_offset s t n)

-- all of so many entries of a table, "but the last command"
unfoldable pub to_be_used : Table → ℕ → ℕ
to_be_used Arithmetic count = count
to_be_used Boolean count = count
to_be_used Commands count = count - 1

unfoldable pub used_validity : List ℕ → Table → Validity
used_validity s t = ask_each (to_be_used t (entry_count s t)) (use_validity s t)

-- "Is the last one a command? 11"
unfoldable pub last_validity : List ℕ → Validity
last_validity s = ask (is_command (entry s Commands (last_command s)).kind) 11 (entry_offset s Commands (last_command s))

-- questions 10, "first in file order", and 11
unfoldable pub uses_validity : List ℕ → Validity
uses_validity s =
    in_turn
    (used_validity s Arithmetic ∷ used_validity s Boolean ∷ used_validity s Commands ∷ last_validity s ∷ [])

-- "20, such a command outside every do, with the byte where the lowest such entry starts as its place, asked after 11"
unfoldable pub jump_validity : List ℕ → ℕ → Validity
jump_validity s n = ask (not (loose n (script s))) 20 (entry_offset s Commands n)

unfoldable pub jumps_validity : List ℕ → Validity
jumps_validity s = ask_each (entry_count s Commands) (jump_validity s)

-- questions 6 to 11 and 20: "each entry in file order", then their uses, then the jumps
unfoldable pub content_validity : List ℕ → Validity
content_validity s =
    in_turn
    (ask_each (name_count s) (name_validity s)
    ∷ table_validity s Arithmetic
    ∷ table_validity s Boolean
    ∷ table_validity s Commands
    ∷ uses_validity s
    ∷ jumps_validity s
    ∷ [])

-- questions 1 to 11 and 20 of a program file: it is "well formed" where all are answered yes
unfoldable pub validity : List ℕ → Validity
validity s = in_turn (heads_validity s 0 program_fields ∷ end_validity s 4 ∷ content_validity s ∷ [])

-- questions 1 to 11 and 20 of the sheet program's input: "Here 1 to 4 are asked of the fifth field too, and 5 after it"
unfoldable pub input_validity : List ℕ → Validity
input_validity s =
    in_turn
    (heads_validity s 0 program_fields
    ∷ head_validity (length s) (field_head s 4) (initial_field (name_count s))
    ∷ end_validity s 5
    ∷ content_validity s
    ∷ [])

-- the parts of that input: the program, and the start list
unfoldable pub program_part : List ℕ → List ℕ
program_part s = take (field_start s 4) s

unfoldable pub initial_part : List ℕ → List ℕ
initial_part s = head_content s (field_head s 4)

-- the rows that the two validations answer, in document 01's numbers: 0, or the question's number and its place
unfoldable pub validation_row : List ℕ → List ℕ
validation_row s = validity_numbers (validity s)

unfoldable pub input_row : List ℕ → List ℕ
input_row s = validity_numbers (input_validity s)
