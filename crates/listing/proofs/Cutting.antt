-- An input that is cut at 32,768 bytes has its answer: the questions 1 to 4 of five fields look no further than 23,631 bytes, and a longer input has 5 answered
-- no, at the first byte after them.
use Rattle.std.specs.Prelude.{Err, Ok}
use mathlib.Core.Path.{◌≡◌, refl, sym, ap, ◌∙◌}
use mathlib.Core.Bool.{true}
use mathlib.Core.List.{List, [], ◌∷◌}
use Prim.Native.Nat.{ℕ, suc, ◌+◌, ◌*◌, ◌/◌, ◌%◌, ◌≤◌, ◌<◌}
use native.Mathlib.Decide.{dec_lt}
use native.Mathlib.Nat.{le_refl, div-add-mod', mul-le-mul_left, mul-le-mul_right}
use native.Mathlib.Omega.{arith}
use borrow.Author.Tests.{eqb-true, leb-true, le-leb, ne_eqb}
use lib.Dec.{eqb, leb}
use lib.ListN.{length, take, drop}
use lib.Seq.{length-take-le, take-take, take_all}
use Rattle.program.specs.Asking.{ask, then_ask, in_turn, Validity}
use Rattle.program.specs.File.{byte_at, word_at, names_field, table_field, program_fields, initial_field, head_found, head_at, after_head, place_after, field_start, field_head, head_span, layout_of, name_count, Head}
use Rattle.program.specs.Questions.{whole_entries, head_validity, heads_validity, end_validity, input_validity}
use Rattle.program.specs.declared.Field.{Field}
use Rattle.program.specs.declared.Table.TheVariants.{Arithmetic, Boolean, Commands}
use Rattle.program.proofs.Asking.{refused_unfit, ask_fit, turn_fit}
use Rattle.program.proofs.Fit.{counts_allowed}
use Rattle.program.proofs.Heads.{whole, field_fit}
use Rattle.program.proofs.Reading.{front_byte, front_word, head_there}
use Rattle.program.proofs.Tests.{three}
use Rattle.listing.specs.Text.{printed_text}
use Rattle.listing.proofs.Printed.{input_refused}

-- what is asked in turn is the same where the first is, and the later where the first passes
then_same : (a b x y : Validity) → a ≡ b → (b ≡ Ok tt → x ≡ y) → then_ask a x ≡ then_ask b y
unfolding then_ask
then_same a b x y e f = rw e (by b f)
  where
    by : (b : Validity) → (b ≡ Ok tt → x ≡ y) → then_ask b x ≡ then_ask b y
    by (Ok _) f = f refl
    by (Err z) f = refl

-- whole entries, as many as allowed, are no more bytes
few_content : (f : Field) (len : ℕ) → whole_entries f len ≡ true → len ≤ f.most * f.width
unfolding whole_entries
few_content f len e =
    let known = three (eqb (len % f.width) 0) (leb f.least (len / f.width)) (leb (len / f.width) f.most) e in
    let whole-number : len % f.width ≡ 0 = eqb-true _ _ known.0 in
    let few : len / f.width ≤ f.most = leb-true _ _ known.2 in
    omega (arith, div-add-mod' len f.width, mul-le-mul_right f.width few)

-- where the next field starts
next_near : (s : List ℕ) (k : ℕ) (f : Field) → head_validity (length s) (field_head s k) f ≡ Ok tt → field_start s (suc k) ≤ field_start s k + (3 + f.most * f.width)
unfolding field_head place_after after_head head_found
next_near s k f e =
    let head = whole s (field_start s k) f e in
    rw head.found (omega (arith, few_content f (word_at s (field_start s k + 1)) head.known.entries))

-- the bytes that fields can have
unfoldable room : List Field → ℕ
room [] = 0
room (f ∷ fs) = 3 + f.most * f.width + room fs

-- a file and its first n bytes
module _ (s : List ℕ) (n : ℕ) (long : n ≤ length s) where
  abbrev cut : List ℕ
  cut = take n s

  cut_length : length cut ≡ n
  cut_length = length-take-le n s long

  front : take n cut ≡ take n (drop 0 s)
  front = take-take n n s (le_refl n)

  same_head : (at : ℕ) → at + 3 ≤ n → head_at cut at ≡ head_at s at
  unfolding head_found
  same_head at h =
      head_there cut at (omega (arith, cut_length))
      ∙ rw (front_byte s cut 0 n front at at (omega arith) (omega arith), front_word s cut 0 n front (at + 1) (at + 1) (omega arith) (omega arith)) (sym (head_there s at (omega arith)))

  -- questions 1 to 4 of a field that ends inside, if it passes 3
  same_asked : (at : ℕ) (f : Field) → at + (3 + f.most * f.width) ≤ n → head_validity (length cut) (head_at cut at) f ≡ head_validity (length s) (head_at s at) f
  unfolding head_validity head_found in_turn
  same_asked at f h =
      rw (same_head at (omega arith), head_there s at (omega arith), cut_length)
      (ap (then_ask (ask (eqb (byte_at s at) f.tag) 2 at))
      (then_same _ _ _ _ refl (λ e.
      let few = few_content f (word_at s (at + 1)) (ask_fit _ 3 at e) in
      rw (le-leb (at + 3 + word_at s (at + 1)) n (omega arith), le-leb (at + 3 + word_at s (at + 1)) (length s) (omega arith)))))

  same_field : (k : ℕ) (f : Field) → field_start cut k ≡ field_start s k → field_start s k + (3 + f.most * f.width) ≤ n
      → head_validity (length cut) (field_head cut k) f ≡ head_validity (length s) (field_head s k) f
  unfolding field_head
  same_field k f e h = rw e (same_asked (field_start s k) f h)

  same_next : (k : ℕ) → field_start cut k ≡ field_start s k → field_start s k + 3 ≤ n → field_start cut (suc k) ≡ field_start s (suc k)
  unfolding place_after
  same_next k e h = rw (e, same_head (field_start s k) h)

  -- all of some fields
  same_heads : (k : ℕ) (fs : List Field) → field_start cut k ≡ field_start s k → field_start s k + room fs ≤ n → heads_validity cut k fs ≡ heads_validity s k fs
  unfolding heads_validity room
  same_heads k [] e h = refl
  same_heads k (f ∷ fs) e h =
      then_same _ _ _ _ (same_field k f e (omega arith)) (λ fit. same_heads (suc k) fs (same_next k e (omega arith)) (omega (arith, next_near s k f fit)))

  module _ (enough : 23631 < n) (heads : heads_validity s 0 program_fields ≡ Ok tt) where
    first_near : field_start s 1 ≤ 67
    unfolding program_fields names_field place_after
    first_near = next_near s 0 names_field (field_fit s heads 0 (omega arith))

    second_near : field_start s 2 ≤ 3654
    unfolding program_fields table_field
    second_near = omega (arith, first_near, next_near s 1 (table_field Arithmetic) (field_fit s heads 1 (omega arith)))

    third_near : field_start s 3 ≤ 5449
    unfolding program_fields table_field
    third_near = omega (arith, second_near, next_near s 2 (table_field Boolean) (field_fit s heads 2 (omega arith)))

    fourth_near : field_start s 4 ≤ 7244
    unfolding program_fields table_field
    fourth_near = omega (arith, third_near, next_near s 3 (table_field Commands) (field_fit s heads 3 (omega arith)))

    same_fourth : field_start cut 4 ≡ field_start s 4
    unfolding place_after
    same_fourth =
        same_next 3
        (same_next 2
        (same_next 1 (same_next 0 refl (omega arith)) (omega (arith, first_near)))
        (omega (arith, second_near)))
        (omega (arith, third_near))

    same_names : name_count cut ≡ name_count s
    unfolding name_count layout_of field_head place_after
    same_names = ap (λ (h : Head). (head_span h names_field).count) (same_head 0 (omega arith))

    -- the fifth field
    same_fifth : head_validity (length cut) (field_head cut 4) (initial_field (name_count cut)) ≡ head_validity (length s) (field_head s 4) (initial_field (name_count s))
    unfolding initial_field
    same_fifth =
        rw same_names
        (same_field 4 (initial_field (name_count s)) same_fourth (omega (arith, fourth_near, mul-le-mul_left 512 (counts_allowed s heads).names)))

    module _ (fifth : head_validity (length s) (field_head s 4) (initial_field (name_count s)) ≡ Ok tt) where
      fifth_near : field_start s 5 ≤ 23631
      unfolding initial_field
      fifth_near = omega (arith, fourth_near, next_near s 4 (initial_field (name_count s)) fifth, mul-le-mul_left 512 (counts_allowed s heads).names)

      -- 5 is no, of both
      ends_no : end_validity s 5 ≡ Err (record { number = 5; offset = field_start s 5 })
      unfolding end_validity ask
      ends_no = rw (ne_eqb (field_start s 5) (length s) (λ e. omega (arith, fifth_near)))

      cut_ends_no : end_validity cut 5 ≡ Err (record { number = 5; offset = field_start s 5 })
      unfolding end_validity ask
      cut_ends_no =
          rw (same_next 4 same_fourth (omega (arith, fourth_near)), cut_length, ne_eqb (field_start s 5) n (λ e. omega (arith, fifth_near)))

  -- so the input has its answer, and is refused
  module _ (enough : 23631 < n) where
    pub same_input : input_validity cut ≡ input_validity s
    unfolding input_validity in_turn program_fields names_field table_field room place_after
    same_input =
        then_same _ _ _ _ (same_heads 0 program_fields refl (omega arith))
        (λ heads. then_same _ _ _ _ (same_fifth enough heads)
        (λ fifth. then_same _ _ _ _ (cut_ends_no enough heads fifth ∙ sym (ends_no enough heads fifth)) (λ e. refused_unfit _ (sym (ends_no enough heads fifth) ∙ e))))

    never_fit : input_validity s ≡ Ok tt → {A : Type 0} → A
    unfolding input_validity
    never_fit fit = refused_unfit _ (sym (ends_no enough (turn_fit _ 0 fit) (turn_fit _ 1 fit)) ∙ turn_fit _ 2 fit)

-- the text for an input is that for its first 32,768 bytes
pub cut_printed : (s : List ℕ) → printed_text (take 32768 s) ≡ printed_text s
cut_printed s =
    elim (dec_lt (length s) 32768) [
      | yes h ↦ ap printed_text (take_all 32768 s (omega arith))
      | no h ↦ by (omega arith) (input_validity s) refl
    ]
  where
    by : 32768 ≤ length s → (v : Validity) → input_validity s ≡ v → printed_text (take 32768 s) ≡ printed_text s
    by long (Ok _) e = never_fit s 32768 long (omega arith) e
    by long (Err x) e = input_refused (take 32768 s) x (same_input s 32768 long (omega arith) ∙ e) ∙ sym (input_refused s x e)
