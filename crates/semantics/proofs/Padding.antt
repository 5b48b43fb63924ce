-- A memory in an array of 1024 cells with the program's numbers behind it: how it is filled, and what is read there.
use mathlib.Core.Path.{◌≡◌, refl, sym, ap, ◌∙◌}
use mathlib.Core.List.{List, ◌++◌}
use Prim.Native.Nat.{ℕ, suc, ◌+◌, ◌-◌, ◌≤◌, ◌<◌, min}
use native.Mathlib.Decide.{ℕ_discrete, dec_le}
use native.Mathlib.Omega.{arith}
use lib.IntN.{ℤ, pos}
use lib.ListN.{length, get_or, set, replicate, take, drop, length-set, get_or-eq_default, get_or-append}
use lib.Seq.{get_or-set_same, get_or-set_other, ext_get_or}
use Rattle.std.proofs.lemmas.List.{length-append, length-drop, length-replicate, length-take-le, get_or-take, get_or-drop, get_or-append_right}
use Rattle.signs.specs.Lists.{tabulate}
use Rattle.program.specs.File.{signed32}
use Rattle.program.specs.Kind.{arith_kind}
use Rattle.program.specs.Parts.Prepared.{arithmetic_count_place, arith_in, number_of, number_in, Coded}
use Rattle.program.proofs.Readings.{number_told}
use Rattle.program.proofs.Lists.{length_tabulate, get_or_tabulate, get_or_same}
use Rattle.semantics.specs.Parts.Cells.{front, Fronted, Numbered, Placed}
use Rattle.semantics.specs.Expression.{cell_value}

-- a list with these cells is the front of a memory
pub is_front : (cells m : List ℤ) (n : ℕ) → length cells ≡ n → ((k : ℕ) → k < n → get_or cells k (pos 0) ≡ cell_value m k) → cells ≡ front n m
unfolding front
is_front cells m n e same =
    ext_get_or (pos 0) cells (tabulate n (cell_value m)) (e ∙ sym (length_tabulate n (cell_value m)))
    (λ k h. same k (omega arith) ∙ sym (get_or_tabulate n (cell_value m) k (pos 0) (omega arith)))

-- the cells of a front
pub front_cell : (n : ℕ) (m : List ℤ) (k : ℕ) → k < n → cell_value (front n m) k ≡ cell_value m k
unfolding front cell_value
front_cell n m k h = get_or_tabulate n (cell_value m) k (pos 0) h

front_past : (n : ℕ) (m : List ℤ) (k : ℕ) → n ≤ k → cell_value (front n m) k ≡ pos 0
unfolding front cell_value
front_past n m k h = get_or-eq_default (front n m) (pos 0) (omega (arith, length_tabulate n (cell_value m)))

-- a memory's first cells are its front
pub front_taken : (n : ℕ) (m : List ℤ) → n ≤ length m → take n m ≡ front n m
unfolding cell_value
front_taken n m h = is_front (take n m) m n (length-take-le n m h) (λ k l. get_or-take n m k (pos 0) l)

-- those cells in front of zeros
pub fronted : (m : List ℤ) (n : ℕ) → n ≡ min (length m) 512 → Fronted m (take n m ++ drop n (replicate 1024 (pos 0)))
unfolding cell_value
fronted m n e = record { room = omega (arith, length-append (take n m) (drop n (replicate 1024 (pos 0))), long, length-drop n (replicate 1024 (pos 0)), length-replicate 1024 (pos 0)); same = at }
  where
    long : length (take n m) ≡ n
    long = length-take-le n m (omega arith)

    at : (k : ℕ) → get_or (take n m ++ drop n (replicate 1024 (pos 0))) k (pos 0) ≡ get_or (front 512 m) k (pos 0)
    at k =
        elim (dec_le (suc k) n) [
          | yes l ↦ get_or-append _ _ (pos 0) k (omega (arith, long)) ∙ get_or-take n m k (pos 0) l ∙ sym (front_cell 512 m k (omega arith))
          | no l ↦ zeros k (omega arith) ∙ sym (past k (omega arith))
        ]
      where
        zeros : (k : ℕ) → n ≤ k → get_or (take n m ++ drop n (replicate 1024 (pos 0))) k (pos 0) ≡ pos 0
        zeros k l = get_or-append_right (take n m) (drop n (replicate 1024 (pos 0))) n k (pos 0) long l ∙ get_or-drop n (replicate 1024 (pos 0)) (k - n) (pos 0) ∙ get_or_same 1024 (pos 0) (n + (k - n))

        past : (k : ℕ) → n ≤ k → get_or (front 512 m) k (pos 0) ≡ pos 0
        past k l =
            elim (dec_le (suc k) 512) [
              | yes h ↦ front_cell 512 m k h ∙ get_or-eq_default m (pos 0) (omega arith)
              | no h ↦ front_past 512 m k (omega arith)
            ]

-- ---- the numbers

-- those of the first n entries are put
pub record Numbering (code : List ℕ) (before cells : List ℤ) (n : ℕ) : Type 0 where
  pub room : length cells ≡ length before
  pub others : (k : ℕ) → k < 512 → cell_value cells k ≡ cell_value before k
  pub number : (i : ℕ) → i < n → cell_value cells (512 + i) ≡ number_in code i
  pub past : (i : ℕ) → n ≤ i → cell_value cells (512 + i) ≡ cell_value before (512 + i)

pub numbering_more : (code : List ℕ) (before cells : List ℤ) (n : ℕ) (z : ℤ) → Numbering code before cells n → 512 + n < length cells → z ≡ number_in code n
    → Numbering code before (set cells (512 + n) z) (n + 1)
unfolding cell_value
numbering_more code before cells n z f h e =
    record {
      room = length-set cells (512 + n) z ∙ f.room;
      others = λ k l. get_or-set_other cells (512 + n) k z (pos 0) (λ p. omega arith) ∙ f.others k l;
      number = at;
      past = λ i l. get_or-set_other cells (512 + n) (512 + i) z (pos 0) (λ p. omega arith) ∙ f.past i (omega arith);
    }
  where
    at : (i : ℕ) → i < n + 1 → get_or (set cells (512 + n) z) (512 + i) (pos 0) ≡ number_in code i
    at i l =
        elim (ℕ_discrete i n) [
          | yes p ↦ ap (λ (k : ℕ). get_or (set cells (512 + n) z) (512 + k) (pos 0)) p ∙ get_or-set_same cells (512 + n) z (pos 0) h ∙ e ∙ ap (number_in code) (sym p)
          | no d ↦ get_or-set_other cells (512 + n) (512 + i) z (pos 0) (λ p. omega arith) ∙ f.number i (omega arith)
        ]

-- past the last arithmetic entry there is no number
no_numbers : (ns code : List ℕ) → Coded ns code → (n : ℕ) → get_or code arithmetic_count_place 0 ≤ n → n < 512 → number_in code n ≡ pos 0
unfolding arith_in arith_kind number_of signed32
no_numbers ns code c n h l = number_told code n l refl (ap arith_kind (c.past n h l))

-- so with the memory in front all is in its place
pub placed : (ns code : List ℕ) → Coded ns code → (m before cells : List ℤ) → Fronted m before → Numbered code before cells → Placed code m cells
placed ns code c m before cells f n =
    record {
      room = n.room ∙ f.room;
      same = λ k h. n.others k h ∙ f.same k ∙ front_cell 512 m k h;
      numbers = record { number = at };
    }
  where
    at : (i : ℕ) → i < 512 → cell_value cells (512 + i) ≡ number_in code i
    at i h =
        elim (dec_le (suc i) (get_or code arithmetic_count_place 0)) [
          | yes l ↦ n.number i l h
          | no l ↦ n.past i (omega arith) ∙ f.same (512 + i) ∙ front_past 512 m (512 + i) (omega arith) ∙ sym (no_numbers ns code c i (omega arith) h)
        ]
