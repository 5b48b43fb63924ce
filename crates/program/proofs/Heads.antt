-- What questions 1 to 4 say of the heads of a program that passes them.
use Rattle.std.specs.Prelude.{Ok, Err}
use mathlib.Core.Path.{◌≡◌, refl, ap}
use mathlib.Core.Bool.{Bool, true, false, cond, false≢true}
use mathlib.Core.List.{List}
use Prim.Native.Nat.{ℕ, zero, suc, ◌+◌, ◌/◌, ◌≤◌, ◌<◌}
use native.Mathlib.Omega.{arith}
use lib.Dec.{eqb, leb}
use lib.ListN.{length, get_or}
use borrow.Author.Tests.{leb-true, le-leb}
use Rattle.program.specs.Asking.{ask, then_ask, in_turn}
use Rattle.program.specs.File.{word_at, names_field, program_fields, head_found, head_at, after_head, place_after, field_start, field_head, head_span, Head}
use Rattle.program.specs.Questions.{whole_entries, head_validity, heads_validity}
use Rattle.program.specs.declared.Field.{Field}
use Rattle.program.specs.declared.FieldHead.{FieldHead}
use Rattle.program.proofs.Asking.{ask_fit, then_first, then_second, turn_fit}
use Rattle.program.proofs.Reading.{head_there}

-- what questions 2 to 4 say of a head that is there
pub record Asked (end : ℕ) (h : FieldHead) (f : Field) : Type 0 where
  pub tagged : eqb h.tag f.tag ≡ true
  pub entries : whole_entries f h.length ≡ true
  pub inside : h.next ≤ end

asked : (end : ℕ) (h : FieldHead) (f : Field) → head_validity end (Ok h) f ≡ Ok tt → Asked end h f
unfolding head_validity
asked end h f e =
    record {
      tagged = ask_fit _ 2 h.start (turn_fit _ 0 e);
      entries = ask_fit _ 3 h.start (turn_fit _ 1 e);
      inside = leb-true _ _ (ask_fit _ 4 h.start (turn_fit _ 2 e));
    }

-- they are fit too where the file ends earlier, but not before the field does
pub ends_earlier : (end earlier : ℕ) (h : Head) (f : Field) → head_validity end h f ≡ Ok tt → after_head h ≤ earlier → head_validity earlier h f ≡ Ok tt
unfolding head_validity after_head in_turn then_ask ask
ends_earlier end earlier (Err at) f e l = e
ends_earlier end earlier (Ok h) f e l =
    let known = asked end h f e in
    rw (known.tagged, known.entries, le-leb h.next earlier l)

-- a field that passes questions 1 to 4, at a place
pub record Whole (s : List ℕ) (at : ℕ) (f : Field) : Type 0 where
  pub found : head_at s at ≡ Ok (head_found s at)
  pub known : Asked (length s) (head_found s at) f

pub whole : (s : List ℕ) (at : ℕ) (f : Field) → head_validity (length s) (head_at s at) f ≡ Ok tt → Whole s at f
unfolding head_at head_validity
whole s at f e = go (leb (at + 3) (length s)) refl e
  where
    go : (b : Bool) → leb (at + 3) (length s) ≡ b → head_validity (length s) (cond b (Ok (head_found s at)) (Err at)) f ≡ Ok tt → Whole s at f
    go true t e = record { found = head_there s at (leb-true _ _ t); known = asked (length s) (head_found s at) f e }
    go false t e = absurd (false≢true (ask_fit false 1 at e))

-- the four fields of a program
module _ (s : List ℕ) (fit : heads_validity s 0 program_fields ≡ Ok tt) where
  pub field_fit : (k : ℕ) → k < 4 → head_validity (length s) (field_head s k) (get_or program_fields k names_field) ≡ Ok tt
  unfolding heads_validity program_fields
  field_fit zero h = then_first _ _ fit
  field_fit (suc zero) h = then_first _ _ (then_second _ _ fit)
  field_fit (suc (suc zero)) h = then_first _ _ (then_second _ _ (then_second _ _ fit))
  field_fit (suc (suc (suc zero))) h = then_first _ _ (then_second _ _ (then_second _ _ (then_second _ _ fit)))
  field_fit (suc (suc (suc (suc k)))) h = absurd (omega arith)

  field_whole : (k : ℕ) → k < 4 → Whole s (field_start s k) (get_or program_fields k names_field)
  unfolding field_head
  field_whole k h = whole s (field_start s k) _ (field_fit k h)

  pub next_start : (k : ℕ) → k < 4 → field_start s (suc k) ≡ field_start s k + 3 + word_at s (field_start s k + 1)
  unfolding place_after after_head head_found
  next_start k h = rw (field_whole k h).found

  -- no field ends past the last
  pub ends_before : (k : ℕ) → k < 4 → field_start s (suc k) ≤ field_start s 4
  ends_before zero h = omega (arith, next_start 1 (omega arith), next_start 2 (omega arith), next_start 3 (omega arith))
  ends_before (suc zero) h = omega (arith, next_start 2 (omega arith), next_start 3 (omega arith))
  ends_before (suc (suc zero)) h = omega (arith, next_start 3 (omega arith))
  ends_before (suc (suc (suc zero))) h = omega arith
  ends_before (suc (suc (suc (suc k)))) h = absurd (omega arith)

  pub end_inside : field_start s 4 ≤ length s
  unfolding head_found
  end_inside = omega (arith, next_start 3 (omega arith), (field_whole 3 (omega arith)).known.inside)

  -- where the content of a field is
  pub field_span : (k : ℕ) → k < 4 → (f : Field)
      → head_span (field_head s k) f ≡ record { start = field_start s k + 3; count = word_at s (field_start s k + 1) / f.width }
  unfolding field_head head_span head_found
  field_span k h f = rw (field_whole k h).found

-- field k of a program whose heads are fit starts at a place: its length is there, and says where its content is and where the next field starts
pub record StartsAt (s : List ℕ) (k at : ℕ) : Type 0 where
  pub fit : heads_validity s 0 program_fields ≡ Ok tt
  pub few : k < 4
  pub same : at ≡ field_start s k

module _ {s : List ℕ} {k at : ℕ} (starts : StartsAt s k at) where
  pub length_there : at + 1 + 1 < length s
  unfolding head_found
  length_there = omega (arith, (field_whole s starts.fit k starts.few).known.inside, starts.same)

  pub span_from : {n : ℕ} (f : Field) → n ≡ word_at s (at + 1) → record { start = at + 3; count = n / f.width } ≡ head_span (field_head s k) f
  span_from f e = rw (e, starts.same, field_span s starts.fit k starts.few f)

  pub next_from : {n : ℕ} → suc k < 4 → n ≡ word_at s (at + 1) → StartsAt s (suc k) (at + 3 + n)
  next_from h e =
      record {
        fit = starts.fit;
        few = h;
        same = omega (arith, next_start s starts.fit k starts.few, starts.same, ap (λ (x : ℕ). word_at s (x + 1)) starts.same);
      }
