-- The two parts of the sheet program's input: the program part is well formed where the input is fit, and the start list is whole records.
use Rattle.std.specs.Prelude.{Ok}
use mathlib.Core.Path.{◌≡◌, refl, sym, ◌∙◌, ap}
use mathlib.Core.List.{List}
use Prim.Native.Nat.{ℕ, zero, suc, ◌+◌, ◌*◌, ◌/◌, ◌%◌, ◌≤◌, ◌<◌}
use native.Mathlib.Nat.{div-add-mod', mul-div-le}
use native.Mathlib.Omega.{arith}
use lib.Dec.{eqb, leb}
use lib.ListN.{length, get_or, take, drop, length-drop}
use lib.Seq.{length-take-le, take_all}
use borrow.Author.Tests.{leb-true, eqb-true, eq-eqb}
use Rattle.program.specs.Asking.{ask, then_ask, in_turn}
use Rattle.program.specs.File.{byte_at, word_at, names_field, table_field, program_fields, initial_field, head_found, head_at, after_head, place_after, field_start, field_head, head_span, head_content, layout_of, span_of, name_count, name_offset, size_at, sizes, entry_count, table_start, entry_offset, entry_at, entry}
use Rattle.program.specs.Questions.{whole_entries, head_validity, heads_validity, end_validity, content_validity, validity, input_validity, program_part, initial_part}
use Rattle.program.specs.declared.Field.{Field}
use Rattle.program.specs.declared.Layout.{Layout}
use Rattle.program.specs.declared.Span.{Span}
use Rattle.program.specs.declared.Table.{Table}
use Rattle.program.specs.declared.Table.TheVariants.{Arithmetic, Boolean, Commands}
use Rattle.program.proofs.Agreeing.{Agree, same_names, same_sizes, same_content}
use Rattle.program.proofs.Asking.{ask_fit, turn_fit}
use Rattle.program.proofs.Fit.{counts_allowed}
use Rattle.program.proofs.Heads.{Whole, whole, ends_earlier, field_fit, next_start, ends_before, end_inside, field_span}
use Rattle.program.proofs.Reading.{front_byte, front_word, front_entry, head_there}
use Rattle.program.proofs.Tests.{three}

-- the program part of a file with four fields that pass questions 1 to 4
module _ (s : List ℕ) (fit : heads_validity s 0 program_fields ≡ Ok tt) where
  part_length : length (program_part s) ≡ field_start s 4
  unfolding program_part
  part_length = length-take-le (field_start s 4) s (end_inside s fit)

  -- what is read below the end
  part_front : take (field_start s 4) (program_part s) ≡ take (field_start s 4) (drop 0 s)
  unfolding program_part
  part_front = take_all (field_start s 4) (program_part s) (omega (arith, part_length))

  same_byte : (i : ℕ) → i < field_start s 4 → byte_at (program_part s) i ≡ byte_at s i
  same_byte i h = front_byte s (program_part s) 0 (field_start s 4) part_front i i h (omega arith)

  same_word : (i : ℕ) → i + 1 < field_start s 4 → word_at (program_part s) i ≡ word_at s i
  same_word i h = front_word s (program_part s) 0 (field_start s 4) part_front i i h (omega arith)

  same_head : (at : ℕ) → at + 3 ≤ field_start s 4 → head_at (program_part s) at ≡ head_at s at
  unfolding head_found
  same_head at h =
      head_there (program_part s) at (omega (arith, part_length))
      ∙ rw (same_byte at (omega arith), same_word (at + 1) (omega arith)) (sym (head_there s at (omega (arith, end_inside s fit))))

  -- so the fields start where they did
  same_start : (k : ℕ) → k ≤ 4 → field_start (program_part s) k ≡ field_start s k
  unfolding place_after
  same_start zero h = refl
  same_start (suc k) h =
      rw (same_start k (omega arith), same_head (field_start s k) (omega (arith, next_start s fit k h, ends_before s fit k h)))

  same_field : (k : ℕ) → k < 4 → field_head (program_part s) k ≡ field_head s k
  unfolding field_head
  same_field k h = rw (same_start k (omega arith)) (same_head (field_start s k) (omega (arith, next_start s fit k h, ends_before s fit k h)))

  same_layout : layout_of (program_part s) ≡ layout_of s
  unfolding layout_of
  same_layout = rw (same_field 0 (omega arith), same_field 1 (omega arith), same_field 2 (omega arith), same_field 3 (omega arith))

  -- a field's content ends before the next field starts
  field_end : (k : ℕ) → k < 4 → (f : Field) → (head_span (field_head s k) f).start + f.width * (head_span (field_head s k) f).count ≤ field_start s 4
  field_end k h f =
      rw (field_span s fit k h f) (omega (arith, mul-div-le (word_at s (field_start s k + 1)) f.width, next_start s fit k h, ends_before s fit k h))

  names_end : 3 + 2 * name_count s ≤ field_start s 4
  unfolding name_count layout_of names_field place_after
  names_end = omega (arith, field_end 0 (omega arith) names_field, ap (λ (x : Span). x.start) (field_span s fit 0 (omega arith) names_field))

  pub table_end : (t : Table) → table_start s t + 7 * entry_count s t ≤ field_start s 4
  unfolding table_start entry_count span_of layout_of table_field
  table_end Arithmetic = field_end 1 (omega arith) (table_field Arithmetic)
  table_end Boolean = field_end 2 (omega arith) (table_field Boolean)
  table_end Commands = field_end 3 (omega arith) (table_field Commands)

  -- so the names and entries are the same
  same_entry_at : (at : ℕ) → at + 7 ≤ field_start s 4 → entry_at (program_part s) at ≡ entry_at s at
  same_entry_at at h = front_entry s (program_part s) 0 (field_start s 4) part_front at at h (omega arith)

  part_agrees : Agree (program_part s) s
  unfolding size_at name_offset entry entry_offset table_start
  part_agrees =
      record {
        layout = same_layout;
        size = λ i h. same_word (3 + 2 * i) (omega (arith, names_end));
        same_entry = λ t n h.
            ap (λ (l : Layout). entry_at (program_part s) ((span_of l t).start + 7 * n)) same_layout
            ∙ same_entry_at ((span_of (layout_of s) t).start + 7 * n) (omega (arith, table_end t));
      }

  -- and the heads are fit
  part_field_fit : (k : ℕ) → k < 4 → head_validity (length (program_part s)) (field_head (program_part s) k) (get_or program_fields k names_field) ≡ Ok tt
  unfolding place_after field_head
  part_field_fit k h = rw (part_length, same_field k h) (ends_earlier (length s) (field_start s 4) _ _ (field_fit s fit k h) (ends_before s fit k h))

  part_heads_fit : heads_validity (program_part s) 0 program_fields ≡ Ok tt
  unfolding heads_validity program_fields then_ask
  part_heads_fit = rw (part_field_fit 0 (omega arith), part_field_fit 1 (omega arith), part_field_fit 2 (omega arith), part_field_fit 3 (omega arith))

  part_end_fit : end_validity (program_part s) 4 ≡ Ok tt
  unfolding end_validity ask
  part_end_fit = rw (same_start 4 (omega arith), part_length, eq-eqb (field_start s 4) (field_start s 4) refl)

module _ (s : List ℕ) (fit : input_validity s ≡ Ok tt) where
  heads : heads_validity s 0 program_fields ≡ Ok tt
  unfolding input_validity
  heads = turn_fit _ 0 fit

  content : content_validity s ≡ Ok tt
  unfolding input_validity
  content = turn_fit _ 3 fit

  -- the program part is well formed, and has the input's names
  pub program_fit : validity (program_part s) ≡ Ok tt
  unfolding validity in_turn then_ask
  program_fit =
      let same = same_content (program_part s) s (part_agrees s heads) (counts_allowed s heads).some_command in
      rw (part_heads_fit s heads, part_end_fit s heads, same, content)

  pub program_names : name_count (program_part s) ≡ name_count s
  program_names = same_names (program_part s) s (part_agrees s heads)

  pub program_sizes : sizes (program_part s) ≡ sizes s
  program_sizes = same_sizes (program_part s) s (part_agrees s heads)

  -- the start list is whole records, at most 512
  initial_field_lem : Whole s (field_start s 4) (initial_field (name_count s))
  unfolding input_validity field_head
  initial_field_lem = whole s (field_start s 4) (initial_field (name_count s)) (turn_fit _ 1 fit)

  initial_length : length (initial_part s) ≡ word_at s (field_start s 4 + 1)
  unfolding initial_part field_head head_content head_found
  initial_length =
      rw initial_field_lem.found
      (length-take-le (word_at s (field_start s 4 + 1)) (drop (field_start s 4 + 3) s) (rw length-drop (omega (arith, initial_field_lem.known.inside))))

  initial_counts : (word_at s (field_start s 4 + 1) % name_count s ≡ 0) × (word_at s (field_start s 4 + 1) / name_count s ≤ 512)
  unfolding head_found whole_entries initial_field
  initial_counts =
      let len = word_at s (field_start s 4 + 1) in
      let known = three (eqb (len % name_count s) 0) (leb 0 (len / name_count s)) (leb (len / name_count s) 512) initial_field_lem.known.entries in
      (eqb-true _ _ known.0, leb-true _ _ known.2)

  pub initial_whole_lem : length (initial_part s) % name_count (program_part s) ≡ 0
  initial_whole_lem = rw (initial_length, program_names) initial_counts.0

  pub initial_few : length (initial_part s) / name_count (program_part s) ≤ 512
  initial_few = rw (initial_length, program_names) initial_counts.1

  pub initial_records : length (initial_part s) ≡ length (initial_part s) / name_count (program_part s) * name_count (program_part s)
  initial_records = omega (arith, div-add-mod' (length (initial_part s)) (name_count (program_part s)), initial_whole_lem)

  -- the parts of the input, one after the other with a head of three bytes between them, and nothing else
  pub program_there : take (length (program_part s)) s ≡ program_part s
  unfolding program_part
  program_there = rw (part_length s heads)

  pub initial_there : take (length (initial_part s)) (drop (length (program_part s) + 3) s) ≡ initial_part s
  unfolding initial_part field_head head_content head_found
  initial_there = rw (initial_length, part_length s heads, initial_field_lem.found)

  pub parts_fill : length (program_part s) + 3 + length (initial_part s) ≡ length s
  unfolding input_validity end_validity place_after after_head head_found
  parts_fill =
      let end : field_start s 5 ≡ length s = eqb-true _ _ (ask_fit _ 5 _ (turn_fit _ 2 fit)) in
      let next : field_start s 5 ≡ field_start s 4 + 3 + word_at s (field_start s 4 + 1) = rw initial_field_lem.found in
      omega (arith, part_length s heads, initial_length)
