-- What the questions say of a program that passes them all.
use Rattle.std.specs.Prelude.{Ok}
use mathlib.Core.Path.{◌≡◌, refl, ap}
use mathlib.Core.Bool.{true, false}
use mathlib.Core.List.{List}
use Prim.Native.Nat.{ℕ, suc, ◌+◌, ◌*◌, ◌-◌, ◌/◌, ◌%◌, ◌≤◌, ◌<◌}
use native.Mathlib.Decide.{dec_lt}
use native.Mathlib.Omega.{arith}
use lib.Dec.{leb, eqb}
use lib.ListN.{length, get_or, take, get_or-eq_default}
use lib.Seq.{take_all}
use borrow.Author.Tests.{leb-true, eqb-true, not-true}
use Rattle.program.specs.Parts.Layouts.{LaidOut}
use Rattle.program.specs.File.{word_at, names_field, table_field, program_fields, head_found, head_at, place_after, field_start, field_head, head_span, layout_of, span_of, name_count, size_at, sizes, entry_count, table_start, entry, cell_count}
use Rattle.program.specs.Jumps.{loose}
use Rattle.program.specs.Kind.{is_command}
use Rattle.program.specs.Questions.{whole_entries, head_validity, heads_validity, name_validity, entry_validity, table_validity, uses, use_validity, to_be_used, used_validity, last_validity, uses_validity, jump_validity, jumps_validity, content_validity, validity}
use Rattle.program.specs.Tree.{last_command, script}
use Rattle.program.specs.declared.Field.{Field}
use Rattle.program.specs.declared.Layout.{Layout}
use Rattle.program.specs.declared.Span.{Span}
use Rattle.program.specs.declared.Table.{Table}
use Rattle.program.specs.declared.Table.TheVariants.{Arithmetic, Boolean, Commands}
use Rattle.program.proofs.Asking.{ask_fit, turn_fit, each_fit}
use Rattle.program.proofs.Cells.{sizes_length, size_at_lem}
use Rattle.program.proofs.Heads.{whole, field_fit, StartsAt}
use Rattle.program.proofs.Reading.{laid_count, laid_start}
use Rattle.program.proofs.Tests.{two, three}

-- a field that passes questions 1 to 4: it starts inside the file, and its number of entries is one that is allowed
record Allowed (end : ℕ) (f : Field) (x : Span) : Type 0 where
  inside : x.start ≤ end
  enough : f.least ≤ x.count
  few : x.count ≤ f.most

head_fit : (s : List ℕ) (at : ℕ) (f : Field) → head_validity (length s) (head_at s at) f ≡ Ok tt → Allowed (length s) f (head_span (head_at s at) f)
unfolding head_found head_span whole_entries
head_fit s at f e =
    let len = word_at s (at + 1) in
    let head = whole s at f e in
    let counts = three (eqb (len % f.width) 0) (leb f.least (len / f.width)) (leb (len / f.width) f.most) head.known.entries in
    rw head.found (record { inside = omega (arith, head.known.inside); enough = leb-true _ _ counts.1; few = leb-true _ _ counts.2 })

-- the numbers of entries that the heads of the four fields allow: "1 to 32", "0 to 512", "0 to 256", "1 to 256"
pub record Counts (s : List ℕ) : Type 0 where
  pub some_name : 1 ≤ name_count s
  pub names : name_count s ≤ 32
  pub arithmetic : entry_count s Arithmetic ≤ 512
  pub boolean : entry_count s Boolean ≤ 256
  pub some_command : 1 ≤ entry_count s Commands
  pub commands : entry_count s Commands ≤ 256

module _ (s : List ℕ) (e : heads_validity s 0 program_fields ≡ Ok tt) where
  names_allowed : Allowed (length s) names_field (layout_of s).names
  unfolding program_fields layout_of field_head
  names_allowed = head_fit s (field_start s 0) _ (field_fit s e 0 (omega arith))

  table_allowed : (t : Table) → Allowed (length s) (table_field t) (span_of (layout_of s) t)
  unfolding program_fields layout_of field_head span_of
  table_allowed Arithmetic = head_fit s (field_start s 1) _ (field_fit s e 1 (omega arith))
  table_allowed Boolean = head_fit s (field_start s 2) _ (field_fit s e 2 (omega arith))
  table_allowed Commands = head_fit s (field_start s 3) _ (field_fit s e 3 (omega arith))

  -- all bytes of a table's entries are there
  entries_whole : (t : Table) → (span_of (layout_of s) t).start + 7 * (span_of (layout_of s) t).count ≤ length s
  unfolding program_fields layout_of field_head span_of head_span head_found table_field
  entries_whole Arithmetic = let w = whole s (field_start s 1) _ (field_fit s e 1 (omega arith)) in rw w.found (omega (arith, w.known.inside))
  entries_whole Boolean = let w = whole s (field_start s 2) _ (field_fit s e 2 (omega arith)) in rw w.found (omega (arith, w.known.inside))
  entries_whole Commands = let w = whole s (field_start s 3) _ (field_fit s e 3 (omega arith)) in rw w.found (omega (arith, w.known.inside))

  pub laid_out : (l : Layout) → l ≡ layout_of s → LaidOut s l
  unfolding span_of table_field
  laid_out l same =
      record {
        same = same;
        inside = λ t. omega (arith, ap (λ (x : Layout). (span_of x t).start) same, (table_allowed t).inside);
        few = λ t. omega (arith, ap (λ (x : Layout). (span_of x t).count) same, (table_allowed t).few);
        some = omega (arith, ap (λ (x : Layout). x.commands.count) same, (table_allowed Commands).enough);
      }

  pub counts_allowed : Counts s
  unfolding names_field table_field name_count entry_count
  counts_allowed =
      record {
        some_name = names_allowed.enough;
        names = names_allowed.few;
        arithmetic = (table_allowed Arithmetic).few;
        boolean = (table_allowed Boolean).few;
        some_command = (table_allowed Commands).enough;
        commands = (table_allowed Commands).few;
      }

module _ (s : List ℕ) (fit : validity s ≡ Ok tt) where
  heads_fit : heads_validity s 0 program_fields ≡ Ok tt
  unfolding validity
  heads_fit = turn_fit _ 0 fit

  pub first_starts : StartsAt s 0 0
  unfolding place_after
  first_starts = record { fit = heads_fit; few = omega arith; same = refl }

  content_fit : content_validity s ≡ Ok tt
  unfolding validity
  content_fit = turn_fit _ 2 fit

  uses_fit : uses_validity s ≡ Ok tt
  unfolding content_validity
  uses_fit = turn_fit _ 4 content_fit

  pub counts : Counts s
  counts = counts_allowed s heads_fit

  pub fit_laid_out : (l : Layout) → l ≡ layout_of s → LaidOut s l
  fit_laid_out = laid_out s heads_fit

  pub table_whole : (t : Table) → table_start s t + 7 * entry_count s t ≤ length s
  unfolding table_start entry_count
  table_whole = entries_whole s heads_fit

  pub span_whole : (l : Layout) → l ≡ layout_of s → (t : Table) → (span_of l t).start + 7 * (span_of l t).count ≤ length s
  span_whole l e t = omega (arith, table_whole t, laid_start s l e t, laid_count s l e t)

  pub one_last : entry_count s Commands ≡ suc (last_command s)
  unfolding last_command
  one_last = omega (arith, counts.some_command)

  -- question 6, of each name, and of all
  name_fit : (i : ℕ) → i < name_count s → (size_at s i ≤ 64) × (cell_count (take (suc i) (sizes s)) ≤ 512)
  unfolding content_validity name_validity
  name_fit i h =
      let known = two (leb (size_at s i) 64) (leb (cell_count (take (suc i) (sizes s))) 512) (ask_fit _ 6 _ (each_fit _ _ (turn_fit _ 0 content_fit) i h)) in
      (leb-true _ _ known.0, leb-true _ _ known.1)

  pub small_sizes : (i : ℕ) → get_or (sizes s) i 0 ≤ 64
  small_sizes i =
      elim (dec_lt i (name_count s)) [
        | yes h ↦ rw (size_at_lem s i h) (name_fit i h).0
        | no h ↦ rw (get_or-eq_default (sizes s) 0 {n = i} (omega (arith, sizes_length s))) (omega arith)
      ]

  pub few_cells : cell_count (sizes s) ≤ 512
  few_cells =
      let last = name_count s - 1 in
      rw (take_all (suc last) (sizes s) (omega (arith, sizes_length s))) at (name_fit last (omega (arith, counts.some_name))).1

  -- questions 7 to 9, of each entry
  pub entry_fit : (t : Table) (n : ℕ) → n < entry_count s t → entry_validity s t n ≡ Ok tt
  unfolding content_validity table_validity
  entry_fit Arithmetic n h = each_fit _ _ (turn_fit _ 1 content_fit) n h
  entry_fit Boolean n h = each_fit _ _ (turn_fit _ 2 content_fit) n h
  entry_fit Commands n h = each_fit _ _ (turn_fit _ 3 content_fit) n h

  -- question 10, of the commands
  pub used_once : (n : ℕ) → n < last_command s → uses s Commands n ≡ 1
  unfolding use_validity uses_validity used_validity to_be_used last_command
  used_once n h = eqb-true (uses s Commands n) 1 (ask_fit _ 10 _ (each_fit _ _ (turn_fit _ 2 uses_fit) n h))

  -- question 20, of each command
  pub tight_fit : (n : ℕ) → n < entry_count s Commands → loose n (script s) ≡ false
  unfolding content_validity jumps_validity jump_validity
  tight_fit n h = not-true _ (ask_fit _ 20 _ (each_fit _ _ (turn_fit _ 5 content_fit) n h))

  -- question 11
  pub last_fit : is_command (entry s Commands (last_command s)).kind ≡ true
  unfolding last_validity uses_validity
  last_fit = ask_fit _ 11 _ (turn_fit _ 3 uses_fit)
