-- Membership as an index answers it: of the records of a list of bytes, and of those that begin one. Bytes past them do not matter.
use Rattle.std.proofs.Common.{◌≡◌, ℕ, zero, suc, ◌+◌, ◌*◌, ◌/◌, ◌%◌, ◌<◌, ◌≤◌, Bool, ◌&&◌, ◌||◌, eqb, List, [], ◌∷◌, length, get_or, take, drop, sym, refl, ap, ◌∙◌, subst, suc-add, zero-add, arith, length-drop, length-take-le, get_or-drop, take_all, get_or-take, take-take, eq-eqb, ne_eqb}
use mathlib.Core.Bool.{and_assoc}
use native.Mathlib.Decide.{ℕ_discrete}
use lib.Seq.{take-nil}
use Rattle.signs.specs.Lists.{any_of, tabulate}
use Rattle.signs.proofs.Lists.{or_assoc, or_false, any_of_append}
use Rattle.program.specs.File.{byte_at, word_at}
use Rattle.program.specs.Graph.{word_bytes}
use Rattle.analysis.specs.Parts.Membership.{any_below, among, bucket, Indexed}
use Rattle.analysis.specs.Records.{record_width, record_count, record_at, records_of, record_for, node_of, memory_of, same_signs, gives, listed, has_at}
use Rattle.analysis.proofs.Chains.{last_same, record_inside}

-- tests below n: the same where they agree, the first apart from the others, and of what a list or a function has
any_same : (p q : ℕ → Bool) (n : ℕ) → ((k : ℕ) → k < n → p k ≡ q k) → any_below n p ≡ any_below n q
unfolding any_below
any_same p q zero h = refl
any_same p q (suc n) h = rw (h n (omega arith), any_same p q n (λ k l. h k (omega arith)))

any_first : (p : ℕ → Bool) (n : ℕ) → any_below (suc n) p ≡ (p 0 || any_below n (λ k. p (suc k)))
unfolding any_below
any_first p zero = sym (or_false (p 0))
any_first p (suc n) = ap (λ (b : Bool). b || p (suc n)) (any_first p n) ∙ or_assoc (p 0) (any_below n (λ k. p (suc k))) (p (suc n))

module _ {A : Type 0} (p : A → Bool) where
  any_tabulated : (n : ℕ) (f : ℕ → A) → any_of p (tabulate n f) ≡ any_below n (λ k. p (f k))
  unfolding any_of tabulate any_below
  any_tabulated zero f = refl
  any_tabulated (suc n) f = rw (any_of_append p (tabulate n f) (f n ∷ []), any_tabulated n f, or_false (p (f n)))

  any_listed : (xs : List A) (d : A) → any_of p xs ≡ any_below (length xs) (λ k. p (get_or xs k d))
  unfolding any_of any_below
  any_listed [] d = refl
  any_listed (x ∷ xs) d = ap (λ (b : Bool). p x || b) (any_listed xs d) ∙ sym (any_first (λ k. p (get_or (x ∷ xs) k d)) (length xs))

-- a record that gives a node and signs is the record of them
pub same_word : (a b node : ℕ) → a < 256 → b < 256 → node < 65536 → eqb (a * 256 + b) node ≡ (eqb a (node / 256 % 256) && eqb b (node % 256))
same_word a b node ha hb hn =
    elim (ℕ_discrete a (node / 256 % 256)) [
      | yes p ↦
          elim (ℕ_discrete b (node % 256)) [
            | yes q ↦ rw (eq-eqb a (node / 256 % 256) p, eq-eqb b (node % 256) q) (eq-eqb (a * 256 + b) node (omega arith))
            | no d ↦ rw (eq-eqb a (node / 256 % 256) p, ne_eqb b (node % 256) d) (ne_eqb (a * 256 + b) node (λ e. d (omega arith)))
          ]
      | no d ↦ rw (ne_eqb a (node / 256 % 256) d) (ne_eqb (a * 256 + b) node (λ e. d (omega arith)))
    ]

gives_same : (ns : List ℕ) (node : ℕ) (ρ r : List ℕ) → node < 65536 → length r ≡ record_width ns → get_or r 0 0 < 256 → get_or r 1 0 < 256
    → gives ns node ρ r ≡ same_signs r (record_for node ρ)
unfolding gives node_of memory_of record_for record_width word_bytes word_at byte_at same_signs
gives_same ns node ρ [] hn l ha hb = absurd (omega arith)
gives_same ns node ρ (a ∷ []) hn l ha hb = absurd (omega arith)
gives_same ns node ρ (a ∷ b ∷ signs) hn l ha hb =
    rw (take_all (length ns) signs (omega arith), same_word a b node ha hb hn) (and_assoc (eqb a (node / 256 % 256)) (eqb b (node % 256)) (same_signs signs ρ))

-- of the first n records of a list, whose nodes are two bytes each: each gives a node and signs where it is the record of them
module _ (ns bytes : List ℕ) (n : ℕ) (room : record_width ns * n ≤ length bytes)
    (small : (k i : ℕ) → k < n → i < 2 → get_or bytes (record_width ns * k + i) 0 < 256) (node : ℕ) (ρ : List ℕ) (low : node < 65536) where
  record_gives : (k : ℕ) → k < n → gives ns node ρ (record_at (record_width ns) bytes k) ≡ same_signs (record_at (record_width ns) bytes k) (record_for node ρ)
  unfolding record_at record_width
  record_gives k h =
      gives_same ns node ρ _ low
      (length-take-le (record_width ns) _ (rw length-drop (omega (arith, record_inside (record_width ns) k n (length bytes) h room))))
      (at 0 (omega arith))
      (at 1 (omega arith))
    where
      at : (i : ℕ) → i < 2 → get_or (record_at (record_width ns) bytes k) i 0 < 256
      at i l = rw (get_or-take (record_width ns) (drop (record_width ns * k) bytes) i 0 (omega arith), get_or-drop) (small k i h l)

  any_gives : any_below n (λ k. gives ns node ρ (record_at (record_width ns) bytes k)) ≡ among (record_width ns) bytes n (record_for node ρ)
  unfolding among
  any_gives = any_same _ _ n (λ k h. record_gives k h)

  -- membership in the first n records
  listed_first : listed ns (tabulate n (record_at (record_width ns) bytes)) node ρ ≡ among (record_width ns) bytes n (record_for node ρ)
  unfolding listed
  listed_first = any_tabulated (gives ns node ρ) n (record_at (record_width ns) bytes) ∙ any_gives

  -- membership in a solution of n records
  pub has_among : record_count (record_width ns) bytes ≡ n → has_at ns bytes node ρ ≡ among (record_width ns) bytes n (record_for node ρ)
  unfolding has_at listed records_of
  has_among e = rw e (any_tabulated (gives ns node ρ) n (record_at (record_width ns) bytes) ∙ any_gives)

-- the same by their width
pub listed_among : (ns : List ℕ) (width : ℕ) → record_width ns ≡ width → (bytes : List ℕ) (n : ℕ) → width * n ≤ length bytes → ((i : ℕ) → get_or bytes i 0 < 256)
    → (node : ℕ) (ρ : List ℕ) → node < 65536 → listed ns (tabulate n (record_at width bytes)) node ρ ≡ among width bytes n (record_for node ρ)
listed_among ns width e bytes n room small node ρ low =
    subst (λ (w : ℕ). w * n ≤ length bytes → listed ns (tabulate n (record_at w bytes)) node ρ ≡ among w bytes n (record_for node ρ)) e
    (λ l. listed_first ns bytes n l (λ k i h j. small (record_width ns * k + i)) node ρ low) room

-- the first n records alone matter
take_of_drop : (m n : ℕ) (l : List ℕ) → take m (drop n l) ≡ drop n (take (n + m) l)
take_of_drop m zero l = rw (zero-add m)
take_of_drop m (suc n) [] = rw (take-nil m, suc-add n m)
take_of_drop m (suc n) (x ∷ l) = rw (suc-add n m) (take_of_drop m n l)

module _ (width n : ℕ) (bytes bytes' : List ℕ) (same : take (width * n) bytes ≡ take (width * n) bytes') where
  pub record_kept : (k : ℕ) → k < n → record_at width bytes k ≡ record_at width bytes' k
  unfolding record_at
  record_kept k h = up bytes ∙ ap (λ (l : List ℕ). drop (width * k) (take (width * k + width) l)) same ∙ sym (up bytes')
    where
      up : (l : List ℕ) → take width (drop (width * k) l) ≡ drop (width * k) (take (width * k + width) (take (width * n) l))
      up l = take_of_drop width (width * k) l ∙ ap (drop (width * k)) (sym (take-take (width * k + width) (width * n) l (record_inside width k n (width * n) h (omega arith))))

  pub indexed_kept : (index : List ℕ) → width * n ≤ length bytes' → Indexed width bytes n index → Indexed width bytes' n index
  indexed_kept index room x =
      record {
        few = x.few;
        room = room;
        factored = x.factored;
        chained =
            record {
              last = λ h l. x.chained.last h l ∙ last_same _ _ n (λ k b. ap (λ (j : ℕ). eqb j h) (hash_kept k b));
              lower = λ k b. x.chained.lower k b ∙ last_same _ _ k (λ j a. cc (hash_kept j (omega arith), hash_kept k b));
            };
      }
    where
      hash_kept : (k : ℕ) → k < n → bucket (record_at width bytes k) ≡ bucket (record_at width bytes' k)
      hash_kept k h = ap bucket (record_kept k h)
