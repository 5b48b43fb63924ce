-- The sum of a record's terms: of a changed record it is another one's with one term changed.
use Rattle.std.proofs.Common.{◌≡◌, ℕ, zero, suc, ◌+◌, ◌-◌, ◌*◌, ◌/◌, ◌%◌, ◌<◌, ◌≤◌, Bool, true, false, ◌&&◌, eqb, List, [], ◌∷◌, ◌++◌, length, get_or, take, drop, set, replicate, sym, refl, ap, ◌∙◌, suc-add, arith, length-drop, length-set, length-take-le, get_or-drop, get_or-set_other, get_or-take, get_or-set_same, le-ltb, lt-ltb}
use mathlib.Core.Bool.{and_assoc}
use native.Mathlib.Decide.{ℕ_discrete, dec_lt}
use mir.Val.{bool_byte}
use Rattle.std.proofs.lemmas.List.{get_or-append_right}
use lib.ListN.{get_or-append, get_or-eq_default}
use Rattle.program.specs.File.{byte_at}
use Rattle.program.specs.Graph.{word_bytes}
use Rattle.program.proofs.Lists.{length_tabulate, get_or_same, get_or_tabulate}
use Rattle.analysis.specs.Parts.Membership.{factor, weighted, spread, bucket, changed, Factored}
use Rattle.analysis.specs.Parts.RecordParts.{padded_byte, padded}
use Rattle.analysis.specs.Records.{record_for, same_signs}
use Rattle.analysis.specs.declared.Change.{Change}
use Rattle.analysis.proofs.Among.{same_word}

module _ (c : ℕ) where
  -- bytes that agree have the same sum
  weighted_same : (a b : List ℕ) (n : ℕ) → ((i : ℕ) → i < n → get_or a i 0 ≡ get_or b i 0) → weighted c a n ≡ weighted c b n
  unfolding weighted
  weighted_same a b zero h = refl
  weighted_same a b (suc n) h = rw (weighted_same a b n (λ i l. h i (omega arith)), h n (omega arith))

  -- a term is not more than the sum
  pub weighted_term : (r : List ℕ) (n x : ℕ) → x < n → get_or r x 0 * factor (c + x) ≤ weighted c r n
  unfolding weighted
  weighted_term r zero x h = absurd (omega arith)
  weighted_term r (suc n) x h =
      elim (ℕ_discrete x n) [
        | yes e ↦ rw e (omega arith)
        | no d ↦ omega (arith, weighted_term r n x (omega arith))
      ]

  -- a byte past them does not matter
  weighted_past : (r : List ℕ) (n x s : ℕ) → n ≤ x → weighted c (set r x s) n ≡ weighted c r n
  weighted_past r n x s h = weighted_same (set r x s) r n (λ i l. get_or-set_other r x i s 0 (λ e. absurd (omega arith)))

  -- another byte
  weighted_changed : (r : List ℕ) (n x s : ℕ) → x < n → x < length r
      → weighted c (set r x s) n + get_or r x 0 * factor (c + x) ≡ weighted c r n + s * factor (c + x)
  unfolding weighted
  weighted_changed r zero x s h l = absurd (omega arith)
  weighted_changed r (suc n) x s h l =
      elim (ℕ_discrete x n) [
        | yes e ↦ rw (← e, weighted_past r x x s (omega arith), get_or-set_same r x s 0 l) (omega arith)
        | no d ↦ rw (get_or-set_other r x n s 0 (λ e. d (sym e))) (omega (arith, weighted_changed r n x s (omega arith) l))
      ]

-- the front of an array, with one byte another
module _ (names : ℕ) (rho : List ℕ) (few : names ≤ length rho) (w : ℕ) (e : w ≡ weighted 2 rho names) where
  sum_front : weighted 2 (take names rho) names ≡ w
  sum_front = weighted_same 2 (take names rho) rho names (λ i l. get_or-take names rho i 0 l) ∙ sym e

  pub sum_changed : (x s : ℕ) → x < names → w - get_or rho x 0 * factor (2 + x) + s * factor (2 + x) ≡ weighted 2 (set (take names rho) x s) names
  sum_changed x s h =
      let p = weighted_changed 2 (take names rho) names x s h (omega (arith, length-take-le names rho few)) in
      let q = ap (λ (b : ℕ). b * factor (2 + x)) (get_or-take names rho x 0 h) in
      omega (arith, p, q, sum_front, e, weighted_term 2 rho names x h)

  pub sum_kept : (x s : ℕ) → names ≤ x → w ≡ weighted 2 (set (take names rho) x s) names
  sum_kept x s h = sym (weighted_past 2 (take names rho) names x s h ∙ sum_front)

-- two bytes before the others
weighted_after : (a b : ℕ) (r : List ℕ) (n : ℕ) → weighted 0 (a ∷ b ∷ r) (suc (suc n)) ≡ weighted 2 r n + a * factor 0 + b * factor 1
unfolding weighted
weighted_after a b r zero = omega arith
weighted_after a b r (suc n) = let e : 0 + suc (suc n) ≡ 2 + n = omega arith in rw (e, weighted_after a b r n) (omega arith)

-- so the hash of a record, by its node and its memory's sum
bucket_record : (node : ℕ) (ρ : List ℕ) → spread (weighted 2 ρ (length ρ) + node / 256 % 256 * factor 0 + node % 256 * factor 1) ≡ bucket (record_for node ρ)
unfolding bucket record_for word_bytes
bucket_record node ρ = ap spread (sym (weighted_after (node / 256 % 256) (node % 256) ρ (length ρ)))

-- of a changed one
pub hash_changed : (names : ℕ) (rho : List ℕ) (c : Change) → names ≤ length rho
    → spread (weighted 2 (set (take names rho) c.name c.set) names + c.node / 256 % 256 * factor 0 + c.node % 256 * factor 1) ≡ bucket (changed names rho c)
unfolding changed
hash_changed names rho c few =
    let sized = length-set (take names rho) c.name c.set ∙ length-take-le names rho few in
    ap (λ (n : ℕ). spread (weighted 2 (set (take names rho) c.name c.set) n + c.node / 256 % 256 * factor 0 + c.node % 256 * factor 1)) (sym sized)
    ∙ bucket_record c.node (set (take names rho) c.name c.set)

-- ---- Bytes as they are read

-- of a part of a list, and of the array that it is read into
pub part_at : (bytes : List ℕ) (at n i : ℕ) → i < n → get_or (take n (drop at bytes)) i 0 ≡ get_or bytes (at + i) 0
part_at bytes at n i h = get_or-take n (drop at bytes) i 0 h ∙ get_or-drop at bytes i 0

pub padded_length : (bytes : List ℕ) (at names : ℕ) → length (padded bytes at names) ≡ 32
unfolding padded
padded_length bytes at names = length_tabulate 32 (padded_byte bytes at names)

pub padded_at : (bytes : List ℕ) (at names i : ℕ) → names ≤ 32 → i < names → get_or (padded bytes at names) i 0 ≡ get_or bytes (at + i) 0
unfolding padded padded_byte byte_at
padded_at bytes at names i few h = get_or_tabulate 32 (padded_byte bytes at names) i 0 (omega arith) ∙ rw (lt-ltb i names h)

-- past the last name there is 0
pub padded_past : (bytes : List ℕ) (at names i : ℕ) → names ≤ i → get_or (padded bytes at names) i 0 ≡ 0
unfolding padded padded_byte
padded_past bytes at names i h =
    elim (dec_lt i 32) [
      | yes l ↦ get_or_tabulate 32 (padded_byte bytes at names) i 0 l ∙ rw (le-ltb i names h)
      | no l ↦ get_or-eq_default (padded bytes at names) 0 (omega (arith, padded_length bytes at names))
    ]

pub bit_small : (b : Bool) → bool_byte b ≤ 1
bit_small true = omega arith
bit_small false = omega arith

-- a record as it lies in a list: its node's two bytes, and its memory
two_first : (bytes : List ℕ) (at n : ℕ) → at + 2 ≤ length bytes
    → take (2 + n) (drop at bytes) ≡ (get_or bytes at 0 ∷ get_or bytes (at + 1) 0 ∷ take n (drop (at + 2) bytes))
two_first [] at n h = absurd (omega arith)
two_first (a ∷ []) zero n h = absurd (omega arith)
two_first (a ∷ b ∷ l) zero n h = let e : 2 + n ≡ suc (suc n) = omega arith in rw e
two_first (a ∷ []) (suc at) n h = absurd (omega arith)
two_first (a ∷ b ∷ l) (suc at) n h = rw (suc-add at 1, suc-add at 2) (two_first (b ∷ l) at n (omega arith))

module _ (bytes : List ℕ) (at names : ℕ) (room : at + (2 + names) ≤ length bytes) (small : (i : ℕ) → i < length bytes → get_or bytes i 0 < 256) where
  -- its hash, and whether it is a changed one
  pub hash_read : (w node : ℕ) → names ≤ 32 → w ≡ weighted 2 (padded bytes (at + 2) names) names → node ≡ get_or bytes at 0 * 256 + get_or bytes (at + 1) 0
      → spread (w + node / 256 % 256 * factor 0 + node % 256 * factor 1) ≡ bucket (take (2 + names) (drop at bytes))
  unfolding record_for word_bytes
  hash_read w node few e p =
      let m = take names (drop (at + 2) bytes) in
      let sized = length-take-le names (drop (at + 2) bytes) (omega (arith, length-drop (at + 2) bytes)) in
      let ha = small at (omega arith) in
      let hb = small (at + 1) (omega arith) in
      let first : node / 256 % 256 ≡ get_or bytes at 0 = omega (arith, p, ha, hb) in
      let second : node % 256 ≡ get_or bytes (at + 1) 0 = omega (arith, p, ha, hb) in
      ap (λ (n : ℕ). spread (n + node / 256 % 256 * factor 0 + node % 256 * factor 1))
      (e ∙ weighted_same 2 (padded bytes (at + 2) names) m names (λ i l. padded_at bytes (at + 2) names i few l ∙ sym (part_at bytes (at + 2) names i l)) ∙ ap (weighted 2 m) (sym sized))
      ∙ bucket_record node m ∙ ap bucket (rw (first, second) (sym (two_first bytes at names (omega arith))))

  pub changed_read : (rho : List ℕ) (c : Change) → c.node < 65536
      → (eqb (get_or bytes at 0 * 256 + get_or bytes (at + 1) 0) c.node && same_signs (take names (drop (at + 2) bytes)) (set (take names rho) c.name c.set))
      ≡ same_signs (take (2 + names) (drop at bytes)) (changed names rho c)
  unfolding changed record_for word_bytes same_signs
  changed_read rho c low =
      rw (two_first bytes at names (omega arith), same_word (get_or bytes at 0) (get_or bytes (at + 1) 0) c.node (small at (omega arith)) (small (at + 1) (omega arith)) low)
      (and_assoc (eqb (get_or bytes at 0) (c.node / 256 % 256)) (eqb (get_or bytes (at + 1) 0) (c.node % 256)) _)

-- ---- The factors as they are written

-- over the front of an array: those of the first i columns are there, and `f` is the next
pub record Putting (front : List ℕ) (f i : ℕ) : Type 0 where
  pub next : f ≡ factor i
  pub small : f < 65536
  pub each : (j : ℕ) → j < i → get_or front j 0 ≡ factor j

pub putting_none : (front : List ℕ) → Putting front 1 0
unfolding factor
putting_none front = record { next = refl; small = omega arith; each = λ j l. absurd (omega arith) }

pub putting_more : (front : List ℕ) (f i : ℕ) → i < length front → Putting front f i → Putting (set front i f) (f * 31821 % 65536) (suc i)
unfolding factor
putting_more front f i h x =
    record {
      next = rw x.next;
      small = omega arith;
      each =
          λ j l. elim (ℕ_discrete j i) [
            | yes e ↦ rw e (get_or-set_same front i f 0 h ∙ x.next)
            | no d ↦ get_or-set_other front i j f 0 d ∙ x.each j (omega arith)
          ];
    }

-- all of them are there; and past them, zeros
pub put_all : (front rest : List ℕ) (f i : ℕ) → length (front ++ rest) ≡ 12322 → length front ≡ 34 → 34 ≤ i → Putting front f i → Factored (front ++ rest)
put_all front rest f i sized h l x =
    record { sized = sized; each = λ j m. get_or-append front rest 0 j (omega arith) ∙ x.each j (omega arith) }

pub zeros_past : (front index : List ℕ) (i : ℕ) → length front ≡ 34 → index ≡ replicate 12322 0 → 34 ≤ i → get_or (front ++ drop 34 index) i 0 ≡ 0
zeros_past front index i h e l =
    get_or-append_right front (drop 34 index) 34 i 0 h l ∙ get_or-drop 34 index (i - 34) 0 ∙ rw e (get_or_same 12322 0 (34 + (i - 34)))
