-- What stands past the end of a file reads as zero; what is read in a part of it; what the field reader finds; and a layout's spans.
use Rattle.std.specs.Prelude.{Err, Ok}
use mathlib.Core.Path.{◌≡◌, refl, ap, ◌∙◌}
use mathlib.Core.Bool.{Bool, true, false, cond}
use mathlib.Core.List.{List}
use Prim.Native.Nat.{ℕ, suc, ◌+◌, ◌*◌, ◌≤◌, ◌<◌}
use native.Mathlib.Decide.{ℕ_discrete}
use native.Mathlib.Omega.{arith}
use borrow.Author.Tests.{leb-true, le-leb, lt-leb, eq-eqb, ne_eqb}
use lib.Dec.{eqb, leb}
use lib.ListN.{length, take, drop, get_or-eq_default}
use lib.Seq.{get_or-take, get_or-drop}
use Rattle.program.specs.Asking.{ask, Validity}
use Rattle.program.specs.File.{byte_at, word_at, names_field, table_field, head_found, head_at, after_head, place_after, field_start, field_head, head_span, entry_at, layout_of, span_of, name_count, entry_count, table_start, entry_offset, entry, cells_of, Head}
use Rattle.program.specs.Questions.{head_validity, end_validity, same_table, limit}
use Rattle.program.specs.declared.Entry.{Entry}
use Rattle.program.specs.declared.Field.{Field}
use Rattle.program.specs.declared.Layout.{Layout}
use Rattle.program.specs.declared.Table.{Table}
use Rattle.program.specs.declared.Table.TheVariants.{Arithmetic, Boolean, Commands}

pub byte_past : (s : List ℕ) (i : ℕ) → length s ≤ i → byte_at s i ≡ 0
unfolding byte_at
byte_past s i h = get_or-eq_default s 0 h

pub word_past : (s : List ℕ) (i : ℕ) → length s ≤ i → word_at s i ≡ 0
unfolding word_at
word_past s i h = omega (arith, byte_past s i h, byte_past s (i + 1) (omega arith))

pub entry_past : (s : List ℕ) (i : ℕ) {e : Entry} → length s ≤ i → (e.kind ≡ 0) × ((e.p ≡ 0) × ((e.q ≡ 0) × (e.r ≡ 0))) → e ≡ entry_at s i
unfolding entry_at
entry_past s i h (kind, (p, (q, r))) =
    rw (byte_past s i h, word_past s (i + 1) (omega arith), word_past s (i + 3) (omega arith), word_past s (i + 5) (omega arith))
    (λ k. record { kind = kind k; p = p k; q = q k; r = r k })

-- bytes that begin with a part of a file: what is read there
module _ (s bytes : List ℕ) (start end : ℕ) (front : take end bytes ≡ take end (drop start s)) where
  pub front_byte : (i at : ℕ) → i < end → at ≡ start + i → byte_at bytes i ≡ byte_at s at
  unfolding byte_at
  front_byte i at h e = rw (e, ← get_or-take end bytes i 0 h, front, get_or-take end (drop start s) i 0 h) (get_or-drop start s i 0)

  pub front_word : (i at : ℕ) → i + 1 < end → at ≡ start + i → word_at bytes i ≡ word_at s at
  unfolding word_at
  front_word i at h e = rw (front_byte i at (omega arith) e, front_byte (i + 1) (at + 1) h (omega arith))

  pub front_entry : (i at : ℕ) → i + 7 ≤ end → at ≡ start + i → entry_at bytes i ≡ entry_at s at
  unfolding entry_at
  front_entry i at h e =
      rw (
        front_byte i at (omega arith) e,
        front_word (i + 1) (at + 1) (omega arith) (omega arith),
        front_word (i + 3) (at + 3) (omega arith) (omega arith),
        front_word (i + 5) (at + 5) (omega arith) (omega arith),
      )

-- what the field reader finds where three bytes are left, and where they are not
pub head_there : (s : List ℕ) (at : ℕ) → at + 3 ≤ length s → head_at s at ≡ Ok (head_found s at)
unfolding head_at
head_there s at h = rw (le-leb _ _ h)

pub head_short : (s : List ℕ) (at : ℕ) → length s < at + 3 → head_at s at ≡ Err at
unfolding head_at
head_short s at h = rw (lt-leb _ _ h)

-- a field that has an entry starts inside the file, and so does a table
span_inside : (s : List ℕ) (at : ℕ) (f : Field) → 0 < (head_span (head_at s at) f).count → (head_span (head_at s at) f).start ≤ length s
unfolding head_at head_found head_span
span_inside s at f h = go (leb (at + 3) (length s)) refl h
  where
    go : (b : Bool) → leb (at + 3) (length s) ≡ b → 0 < (head_span (cond b (Ok (head_found s at)) (Err at)) f).count → (head_span (cond b (Ok (head_found s at)) (Err at)) f).start ≤ length s
    go true t h = leb-true _ _ t
    go false t h = absurd (omega arith)

pub table_inside : (s : List ℕ) (t : Table) → 0 < entry_count s t → table_start s t ≤ length s
unfolding entry_count table_start layout_of span_of field_head
table_inside s Arithmetic h = span_inside s (field_start s 1) (table_field Arithmetic) h
table_inside s Boolean h = span_inside s (field_start s 2) (table_field Boolean) h
table_inside s Commands h = span_inside s (field_start s 3) (table_field Commands) h

-- what a file's layout holds
module _ (s : List ℕ) (l : Layout) (e : l ≡ layout_of s) where
  pub laid_names : l.names.count ≡ name_count s
  unfolding name_count
  laid_names = ap (λ (x : Layout). x.names.count) e

  pub laid_count : (t : Table) → (span_of l t).count ≡ entry_count s t
  unfolding entry_count
  laid_count t = ap (λ (x : Layout). (span_of x t).count) e

  pub laid_start : (t : Table) → (span_of l t).start ≡ table_start s t
  unfolding table_start
  laid_start t = ap (λ (x : Layout). (span_of x t).start) e

  -- the references from entry n of table t to table u are below this number
  pub laid_limit : (t : Table) (n : ℕ) (u : Table) → cond (same_table t u) n (span_of l u).count ≡ limit s t n u
  unfolding limit
  laid_limit t n u = ap (cond (same_table t u) n) (laid_count u)

-- where an entry stands, and what is read there, by its table's start
pub entry_in : (s : List ℕ) (t : Table) (start m n : ℕ) → start ≡ table_start s t → m ≡ n → start + 7 * m ≡ entry_offset s t n
unfolding entry_offset
entry_in s t start m n e f = λ i. e i + 7 * f i

pub entry_read : (s : List ℕ) (t : Table) (start m n : ℕ) {e : Entry} → e ≡ entry_at s (start + 7 * m) → start ≡ table_start s t → m ≡ n → e ≡ entry s t n
unfolding entry
entry_read s t start m n r e f = r ∙ ap (entry_at s) (entry_in s t start m n e f)

-- an entry of a field is not empty
pub names_wide : {f : Field} → f ≡ names_field → 0 < f.width
unfolding names_field
names_wide e = omega (arith, ap (λ (x : Field). x.width) e)

table_width : (t : Table) → (table_field t).width ≡ 7
unfolding table_field
table_width Arithmetic = refl
table_width Boolean = refl
table_width Commands = refl

pub table_wide : {f : Field} (t : Table) → f ≡ table_field t → 0 < f.width
table_wide t e = omega (arith, ap (λ (x : Field). x.width) e, table_width t)

-- questions 1 to 4 by a head that was read and a field that was made
pub asked_head : (end : ℕ) {h k : Head} {f g : Field} {v : Validity} → v ≡ head_validity end h f → h ≡ k → f ≡ g → v ≡ head_validity end k g
asked_head end e p q = e ∙ (λ i. head_validity end (p i) (q i))

-- question 5 where a field ends whose head was read
pub asked_end : (s : List ℕ) (k : ℕ) {h : Head} {at : ℕ} {v : Validity} → v ≡ ask (eqb at (length s)) 5 at → at ≡ after_head h → h ≡ field_head s k → v ≡ end_validity s (suc k)
unfolding end_validity field_head place_after
asked_end s k e f g = e ∙ ap (λ (at : ℕ). ask (eqb at (length s)) 5 at) (f ∙ ap after_head g)

-- a name whose size is a number of two bytes has fewer cells than there are such numbers
pub cells_few : (n : ℕ) → n < 65536 → cells_of n < 65536
unfolding cells_of
cells_few n h =
    elim (ℕ_discrete n 0) [
      | yes e ↦ rw (eq-eqb n 0 e) (omega arith)
      | no f ↦ rw (ne_eqb n 0 f) h
    ]
