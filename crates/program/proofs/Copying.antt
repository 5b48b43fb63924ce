-- Laws of an array into which the entries of a file are put, four numbers each.
use mathlib.Core.Path.{◌≡◌, ◌∙◌}
use mathlib.Core.List.{List}
use Prim.Native.Nat.{ℕ, ◌+◌, ◌*◌, ◌≤◌, ◌<◌}
use native.Mathlib.Decide.{ℕ_discrete}
use native.Mathlib.Omega.{arith}
use lib.ListN.{length, get_or, set, length-set}
use lib.Seq.{get_or-set_same, get_or-set_other}
use Rattle.program.specs.File.{byte_at, word_at, entry_at}
use Rattle.program.specs.Parts.Prepared.{numbers_at}
use Rattle.program.specs.Parts.Preparing.{Copied}

-- four numbers put at a place
module _ (out : List ℕ) (j a b c d : ℕ) where
  abbrev put : List ℕ
  put = set (set (set (set out j a) (j + 1) b) (j + 2) c) (j + 3) d

  put_length : length put ≡ length out
  put_length = rw (length-set, length-set, length-set, length-set)

  put_other : (i : ℕ) → (i ≡ j → ⊥) → (i ≡ j + 1 → ⊥) → (i ≡ j + 2 → ⊥) → (i ≡ j + 3 → ⊥) → get_or put i 0 ≡ get_or out i 0
  put_other i e f g h =
      let two = set (set out j a) (j + 1) b in
      get_or-set_other (set two (j + 2) c) (j + 3) i d 0 h ∙ get_or-set_other two (j + 2) i c 0 g ∙ get_or-set_other (set out j a) (j + 1) i b 0 f ∙ get_or-set_other out j i a 0 e

  put_before : (i : ℕ) → i < j → get_or put i 0 ≡ get_or out i 0
  put_before i h = put_other i (λ p. omega arith) (λ p. omega arith) (λ p. omega arith) (λ p. omega arith)

  put_after : (i : ℕ) → j + 4 ≤ i → get_or put i 0 ≡ get_or out i 0
  put_after i h = put_other i (λ p. omega arith) (λ p. omega arith) (λ p. omega arith) (λ p. omega arith)

  put_here : j + 4 ≤ length out → numbers_at put j ≡ record { kind = a; p = b; q = c; r = d }
  unfolding numbers_at
  put_here h =
      rw (
        get_or-set_other (set (set (set out j a) (j + 1) b) (j + 2) c) (j + 3) j d 0 (λ p. omega arith),
        get_or-set_other (set (set out j a) (j + 1) b) (j + 2) j c 0 (λ p. omega arith),
        get_or-set_other (set out j a) (j + 1) j b 0 (λ p. omega arith),
        get_or-set_same out j a 0 (omega arith),
        get_or-set_other (set (set (set out j a) (j + 1) b) (j + 2) c) (j + 3) (j + 1) d 0 (λ p. omega arith),
        get_or-set_other (set (set out j a) (j + 1) b) (j + 2) (j + 1) c 0 (λ p. omega arith),
        get_or-set_same (set out j a) (j + 1) b 0 (rw length-set (omega arith)),
        get_or-set_other (set (set (set out j a) (j + 1) b) (j + 2) c) (j + 3) (j + 2) d 0 (λ p. omega arith),
        get_or-set_same (set (set out j a) (j + 1) b) (j + 2) c 0 (rw (length-set, length-set) (omega arith)),
        get_or-set_same (set (set (set out j a) (j + 1) b) (j + 2) c) (j + 3) d 0 (rw (length-set, length-set, length-set) (omega arith)),
      )

-- the numbers at a place by the four that are there
pub numbers_same : (xs ys : List ℕ) (i j : ℕ) → get_or xs i 0 ≡ get_or ys j 0 → get_or xs (i + 1) 0 ≡ get_or ys (j + 1) 0 → get_or xs (i + 2) 0 ≡ get_or ys (j + 2) 0
    → get_or xs (i + 3) 0 ≡ get_or ys (j + 3) 0 → numbers_at xs i ≡ numbers_at ys j
unfolding numbers_at
numbers_same xs ys i j a b c d = λ k. record { kind = a k; p = b k; q = c k; r = d k }

module _ (s : List ℕ) (start place : ℕ) (old : List ℕ) where
  -- one more
  pub copied_next : (n at j : ℕ) {m : ℕ} {out : List ℕ} → at ≡ start + 7 * n → j ≡ place + 4 * n → m ≡ n + 1 → j + 4 ≤ length old → Copied s start place n old out
      → Copied s start place m old (set (set (set (set out j (byte_at s at)) (j + 1) (word_at s (at + 1))) (j + 2) (word_at s (at + 3))) (j + 3) (word_at s (at + 5)))
  unfolding entry_at
  copied_next n at j {m} {out} from to next room f =
      let a = byte_at s at in
      let b = word_at s (at + 1) in
      let c = word_at s (at + 3) in
      let d = word_at s (at + 5) in
      record {
        size = put_length out j a b c d ∙ f.size;
        copied =
            λ k h. elim (ℕ_discrete k n) [
              | yes p ↦ rw (p, ← from, ← to) (put_here out j a b c d (omega (arith, f.size)))
              | no q ↦ numbers_same _ out (place + 4 * k) (place + 4 * k) (put_before out j a b c d _ (omega arith)) (put_before out j a b c d _ (omega arith)) (put_before out j a b c d _ (omega arith)) (put_before out j a b c d _ (omega arith))
                  ∙ f.copied k (omega arith)
            ];
        before = λ i h. put_before out j a b c d i (omega arith) ∙ f.before i h;
        after = λ i h. put_after out j a b c d i (omega arith) ∙ f.after i (omega arith);
      }
