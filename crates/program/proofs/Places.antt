-- The place of a refusal is small, and its number is one: every field's length is bounded before the next field is asked about.
use Rattle.std.specs.Prelude.{Err, Ok}
use mathlib.Core.Path.{◌≡◌, refl, sym, ◌∙◌, ap}
use mathlib.Core.Bool.{Bool, true, false, cond, ◌&&◌}
use mathlib.Core.List.{List, [], ◌∷◌}
use Prim.Native.Nat.{ℕ, suc, ◌+◌, ◌*◌, ◌/◌, ◌%◌, ◌≤◌, ◌<◌}
use native.Mathlib.Nat.{div-add-mod', mul-le-mul_left, mul-le-mul_right}
use native.Mathlib.Omega.{arith}
use lib.Dec.{T, eqb, leb, leb→le}
use mir.Facts.{and_yes}
use lib.ListN.{length}
use borrow.Author.Tests.{leb-true, eqb-true}
use Rattle.program.specs.Asking.{ask, then_ask, is_refused, in_turn, ask_each, Validity}
use Rattle.program.specs.File.{word_at, names_field, table_field, program_fields, initial_field, head_found, head_at, field_start, place_after, after_head, field_head, name_count, name_offset, entry_count, entry_offset}
use Rattle.program.specs.Questions.{whole_entries, head_validity, heads_validity, end_validity, name_validity, shape_validity, entry_validity, table_validity, use_validity, to_be_used, used_validity, last_validity, uses_validity, jump_validity, jumps_validity, content_validity, validity, input_validity}
use Rattle.program.specs.Tree.{last_command}
use Rattle.program.specs.Kind.{Shape, Unknown, Known}
use Rattle.program.specs.declared.Field.{Field}
use Rattle.program.specs.declared.Refusal.{Refusal}
use Rattle.program.specs.declared.Table.{Table}
use Rattle.program.specs.declared.Table.TheVariants.{Arithmetic, Boolean, Commands}
use Rattle.program.proofs.Asking.{refused_unfit, ask_fit, turn_fit, not_refused}
use Rattle.program.proofs.Fit.{counts_allowed}
use Rattle.program.proofs.FirstSuch.{first_found}
use Rattle.program.proofs.Heads.{whole, field_fit}
use Rattle.program.proofs.Inputs.{table_end}
use Rattle.program.proofs.Tests.{three}

-- a refusal has a question's number, at least 1 and below the reasons and verdicts, and its place is at most `most`; the same of an answer, where it is a refusal
pub record Told (most : ℕ) (x : Refusal) : Type 0 where
  pub numbered : 1 ≤ x.number
  pub asked : x.number ≤ 30
  pub near : x.offset ≤ most

abbrev pub Placed : ℕ → Validity → Type 0
Placed most v = (x : Refusal) → v ≡ Err x → Told most x

module _ {most : ℕ} where
  pub placed_fit : Placed most (Ok tt)
  placed_fit x e = refused_unfit x (sym e)

  pub placed_ask : (yes? : Bool) (n at : ℕ) → T (leb 1 n && leb n 30) → at ≤ most → Placed most (ask yes? n at)
  unfolding ask
  placed_ask true n at h l x e = placed_fit x e
  placed_ask false n at h l x e =
      let same : record { number = n; offset = at } ≡ x = cc in
      let both = and_yes (leb 1 n) (leb n 30) h in
      rw (← same) (record { numbered = leb→le 1 n both.0; asked = leb→le n 30 both.1; near = l })

  pub placed_then : (a b : Validity) → Placed most a → (a ≡ Ok tt → Placed most b) → Placed most (then_ask a b)
  unfolding then_ask
  placed_then (Ok _) b p q = q refl
  placed_then (Err y) b p q = p

  pub placed_each : (n : ℕ) (q : ℕ → Validity) → ((k : ℕ) → k < n → Placed most (q k)) → Placed most (ask_each n q)
  unfolding is_refused ask_each
  placed_each n q p x e =
      let found = first_found is_refused (Ok tt) refl (λ v i. not_refused v (is_refused v) refl i) n q (ap is_refused e) in
      p found.at found.below x (sym found.answer ∙ e)

  -- questions 1 to 4 have their place where the head starts
  head_placed : (s : List ℕ) (at : ℕ) (f : Field) → at ≤ most → Placed most (head_validity (length s) (head_at s at) f)
  unfolding head_at head_found head_validity in_turn
  head_placed s at f l = go (leb (at + 3) (length s))
    where
      go : (b : Bool) → Placed most (head_validity (length s) (cond b (Ok (head_found s at)) (Err at)) f)
      go true =
          placed_then _ _ (placed_ask _ 2 at tt l)
          (λ _. placed_then _ _ (placed_ask _ 3 at tt l) (λ _. placed_then _ _ (placed_ask _ 4 at tt l) (λ _. placed_fit)))
      go false = placed_ask false 1 at tt l

-- the bytes that fields can have, and where the one after them starts
unfoldable fields_room : List Field → ℕ
fields_room [] = 0
fields_room (f ∷ fs) = 3 + f.most * f.width + fields_room fs

few_content : (f : Field) (len : ℕ) → whole_entries f len ≡ true → len ≤ f.most * f.width
unfolding whole_entries
few_content f len e =
    let known = three (eqb (len % f.width) 0) (leb f.least (len / f.width)) (leb (len / f.width) f.most) e in
    let whole-number : len % f.width ≡ 0 = eqb-true _ _ known.0 in
    let few : len / f.width ≤ f.most = leb-true _ _ known.2 in
    omega (arith, div-add-mod' len f.width, mul-le-mul_right f.width few)

next_near : (s : List ℕ) (k : ℕ) (f : Field) → head_validity (length s) (field_head s k) f ≡ Ok tt → field_start s (suc k) ≤ field_start s k + (3 + f.most * f.width)
unfolding field_head place_after after_head head_found
next_near s k f e =
    let head = whole s (field_start s k) f e in
    rw head.found (omega (arith, few_content f (word_at s (field_start s k + 1)) head.known.entries))

module _ {most : ℕ} where
  heads_placed : (s : List ℕ) (k : ℕ) (fs : List Field) → field_start s k + fields_room fs ≤ most → Placed most (heads_validity s k fs)
  unfolding heads_validity field_head fields_room
  heads_placed s k [] l = placed_fit
  heads_placed s k (f ∷ fs) l =
      placed_then _ _ (head_placed s (field_start s k) f (omega arith)) (λ e. heads_placed s (suc k) fs (omega (arith, next_near s k f e)))

-- questions 7 to 9 have their place where the entry starts
shape_placed : {most : ℕ} (s : List ℕ) (t : Table) (n : ℕ) (x : Shape) → entry_offset s t n ≤ most → Placed most (shape_validity s t n x)
unfolding shape_validity in_turn
shape_placed s t n Unknown l = placed_ask false 7 _ tt l
shape_placed s t n (Known x) l =
    placed_then _ _ (placed_ask _ 8 _ tt l) (λ _. placed_then _ _ (placed_ask _ 9 _ tt l) (λ _. placed_fit))

-- all entries but the last command are entries
to_be_used_lem : (t : Table) (count : ℕ) → to_be_used t count ≤ count
unfolding to_be_used
to_be_used_lem Arithmetic count = omega arith
to_be_used_lem Boolean count = omega arith
to_be_used_lem Commands count = omega arith

-- where four fields that pass questions 1 to 4 end: 3 + 2 * 32, 3 + 7 * 512, 3 + 7 * 256 and 3 + 7 * 256 bytes at most
module _ (s : List ℕ) (heads : heads_validity s 0 program_fields ≡ Ok tt) where
  fields_end : field_start s 4 ≤ 7244
  unfolding program_fields names_field table_field place_after
  fields_end =
      omega
      (arith, next_near s 0 _ (field_fit s heads 0 (omega arith)), next_near s 1 _ (field_fit s heads 1 (omega arith)), next_near s 2 _ (field_fit s heads 2 (omega arith)), next_near s 3 _ (field_fit s heads 3 (omega arith)))

  -- so every name and every entry starts before that
  module _ {most : ℕ} (far : 7244 ≤ most) where
    name_placed : (i : ℕ) → i < name_count s → Placed most (name_validity s i)
    unfolding name_validity name_offset
    name_placed i h = placed_ask _ 6 _ tt (omega (arith, (counts_allowed s heads).names))

    entry_near : (t : Table) (n : ℕ) → n ≤ entry_count s t → entry_offset s t n ≤ most
    unfolding entry_offset
    entry_near t n h = omega (arith, table_end s heads t, fields_end)

    entry_placed : (t : Table) (n : ℕ) → n < entry_count s t → Placed most (entry_validity s t n)
    unfolding entry_validity
    entry_placed t n h = shape_placed s t n _ (entry_near t n (omega arith))

    use_placed : (t : Table) (n : ℕ) → n < to_be_used t (entry_count s t) → Placed most (use_validity s t n)
    unfolding use_validity
    use_placed t n h = placed_ask _ 10 _ tt (entry_near t n (omega (arith, to_be_used_lem t (entry_count s t))))

    uses_placed : Placed most (uses_validity s)
    unfolding uses_validity used_validity last_validity last_command in_turn
    uses_placed =
        placed_then _ _ (placed_each _ _ (use_placed Arithmetic))
        (λ _. placed_then _ _ (placed_each _ _ (use_placed Boolean))
        (λ _. placed_then _ _ (placed_each _ _ (use_placed Commands))
        (λ _. placed_then _ _ (placed_ask _ 11 _ tt (entry_near Commands _ (omega arith))) (λ _. placed_fit))))

    jump_placed : (n : ℕ) → n < entry_count s Commands → Placed most (jump_validity s n)
    unfolding jump_validity
    jump_placed n h = placed_ask _ 20 _ tt (entry_near Commands n (omega arith))

    content_placed : Placed most (content_validity s)
    unfolding content_validity table_validity jumps_validity in_turn
    content_placed =
        placed_then _ _ (placed_each _ _ name_placed)
        (λ _. placed_then _ _ (placed_each _ _ (entry_placed Arithmetic))
        (λ _. placed_then _ _ (placed_each _ _ (entry_placed Boolean))
        (λ _. placed_then _ _ (placed_each _ _ (entry_placed Commands)) (λ _. placed_then _ _ uses_placed (λ _. placed_then _ _ (placed_each _ _ jump_placed) (λ _. placed_fit))))))

-- the questions of a program file: no place is past 7,244
pub validity_placed : (s : List ℕ) → Placed 7244 (validity s)
unfolding validity end_validity in_turn program_fields names_field table_field place_after fields_room
validity_placed s =
    placed_then _ _ (heads_placed s 0 _ (omega arith))
    (λ heads. placed_then _ _ (placed_ask _ 5 _ tt (fields_end s heads))
    (λ _. placed_then _ _ (content_placed s heads (omega arith)) (λ _. placed_fit)))

-- a well-formed file has no more bytes
pub few_bytes : (s : List ℕ) → validity s ≡ Ok tt → length s ≤ 7244
unfolding validity end_validity
few_bytes s fit =
    let end : field_start s 4 ≡ length s = eqb-true _ _ (ask_fit _ 5 _ (turn_fit _ 1 fit)) in
    omega (arith, fields_end s (turn_fit _ 0 fit))

-- the questions of the sheet program's input, whose fifth field has 3 + 32 * 512 bytes at most
initial_end : (s : List ℕ) → heads_validity s 0 program_fields ≡ Ok tt → head_validity (length s) (field_head s 4) (initial_field (name_count s)) ≡ Ok tt → field_start s 5 ≤ 23631
unfolding initial_field
initial_end s heads e =
    omega (arith, fields_end s heads, next_near s 4 _ e, mul-le-mul_left 512 (counts_allowed s heads).names)

pub input_placed : (s : List ℕ) → Placed 23631 (input_validity s)
unfolding input_validity end_validity in_turn program_fields names_field table_field place_after field_head fields_room
input_placed s =
    placed_then _ _ (heads_placed s 0 _ (omega arith))
    (λ heads. placed_then _ _ (head_placed s (field_start s 4) _ (omega (arith, fields_end s heads)))
    (λ e. placed_then _ _ (placed_ask _ 5 _ tt (initial_end s heads e))
    (λ _. placed_then _ _ (content_placed s heads (omega arith)) (λ _. placed_fit))))
