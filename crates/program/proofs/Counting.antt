-- Laws of counting uses.
use mathlib.Core.Path.{◌≡◌, refl, sym, ◌∙◌, ap}
use mathlib.Core.Logic.{◌≢◌}
use mathlib.Core.Bool.{true, false, cond, ◌&&◌}
use mathlib.Core.List.{List}
use Prim.Native.Nat.{ℕ, ◌+◌, ◌≤◌, ◌<◌, min}
use native.Mathlib.Decide.{ℕ_discrete}
use native.Mathlib.Omega.{arith}
use borrow.Author.Tests.{eq-eqb, ne_eqb}
use lib.Dec.{eqb}
use lib.ListN.{length, get_or, set, length-set, replicate}
use lib.Seq.{get_or-set_same, get_or-set_other}
use Rattle.program.specs.Asking.{ask, Validity}
use Rattle.program.specs.Parts.Counting.{capacity, slot, Counted, UsesIn}
use Rattle.program.specs.File.{table_field, entry_offset, entry_count}
use Rattle.program.specs.Questions.{same_table, to_be_used, uses, table_uses, use_validity}
use Rattle.program.specs.declared.Table.{Table}
use Rattle.program.specs.declared.Table.TheVariants.{Arithmetic, Boolean, Commands}
use Rattle.program.proofs.Lists.{get_or_same}

-- nothing counted
pub counted_none : (a : List ℕ) (f : Table → ℕ → ℕ) → ((u : Table) (n : ℕ) → n < capacity u → f u n ≡ 0) → Counted a a f
counted_none a f none = record { same_length = refl; counts = λ u n h few. omega (arith, none u n h) }

-- counted one after the other
pub counted_then : (a b c : List ℕ) (f g : Table → ℕ → ℕ) → Counted a b f → Counted b c g → Counted a c (λ u n. f u n + g u n)
counted_then a b c f g p q =
    record {
      same_length = q.same_length ∙ p.same_length;
      counts = λ u n h few. omega (arith, p.counts u n h few, q.counts u n h (omega (arith, p.counts u n h few)));
    }

-- the operands of the three tables counted one after the other, from nothing
pub counted_all : (s a b c : List ℕ) →
    Counted (replicate 1024 0) a (λ u n. table_uses s u n Arithmetic (entry_count s Arithmetic)) →
    Counted a b (λ u n. table_uses s u n Boolean (entry_count s Boolean)) →
    Counted b c (λ u n. table_uses s u n Commands (entry_count s Commands)) → UsesIn s c
unfolding uses
counted_all s a b c p q r =
    let counted = counted_then _ _ _ _ _ (counted_then _ _ _ _ _ p q) r in
    record {
      room = counted.same_length;
      each = λ u n h. omega (arith, counted.counts u n h (omega (arith, get_or_same {A = ℕ} 1024 0 (slot u n))), get_or_same {A = ℕ} 1024 0 (slot u n));
    }

-- two entries have one slot only where they are the same
slot_same : (t u : Table) (x n : ℕ) → x < capacity t → n < capacity u → slot t x ≡ slot u n → (same_table t u && eqb x n) ≡ true
unfolding capacity table_field slot same_table
slot_same Arithmetic Arithmetic x n h k e = eq-eqb x n e
slot_same Arithmetic Boolean x n h k e = absurd (omega arith)
slot_same Arithmetic Commands x n h k e = absurd (omega arith)
slot_same Boolean Arithmetic x n h k e = absurd (omega arith)
slot_same Boolean Boolean x n h k e = eq-eqb x n (omega arith)
slot_same Boolean Commands x n h k e = absurd (omega arith)
slot_same Commands Arithmetic x n h k e = absurd (omega arith)
slot_same Commands Boolean x n h k e = absurd (omega arith)
slot_same Commands Commands x n h k e = eq-eqb x n (omega arith)

slot_other : (t u : Table) (x n : ℕ) → slot t x ≢ slot u n → (same_table t u && eqb x n) ≡ false
unfolding slot same_table
slot_other Arithmetic Arithmetic x n f = ne_eqb x n f
slot_other Arithmetic Boolean x n f = refl
slot_other Arithmetic Commands x n f = refl
slot_other Boolean Arithmetic x n f = refl
slot_other Boolean Boolean x n f = ne_eqb x n (λ e. f (ap (λ (k : ℕ). 512 + k) e))
slot_other Boolean Commands x n f = refl
slot_other Commands Arithmetic x n f = refl
slot_other Commands Boolean x n f = refl
slot_other Commands Commands x n f = ne_eqb x n (λ e. f (ap (λ (k : ℕ). 768 + k) e))

-- one use of entry x of table t counted
pub counted_one : (a : List ℕ) (t : Table) (x : ℕ) → x < capacity t → slot t x < length a → Counted a (set a (slot t x) (min 2 (get_or a (slot t x) 0 + 1))) (λ u n. cond (same_table t u && eqb x n) 1 0)
counted_one a t x h room =
    record {
      same_length = length-set a (slot t x) _;
      counts = λ u n k few.
          elim (ℕ_discrete (slot t x) (slot u n)) [
            | yes e ↦ rw (slot_same t u x n h k e, ← e) (get_or-set_same a (slot t x) _ 0 room)
            | no f ↦ rw (slot_other t u x n f) (get_or-set_other a (slot t x) (slot u n) _ 0 (λ e. f (sym e)) ∙ omega arith)
          ];
    }

-- a reference past a table's capacity is to no entry
far_other : (t u : Table) (x n : ℕ) → capacity t ≤ x → n < capacity u → (same_table t u && eqb x n) ≡ false
unfolding capacity table_field same_table
far_other Arithmetic Arithmetic x n h k = ne_eqb x n (omega arith)
far_other Arithmetic Boolean x n h k = refl
far_other Arithmetic Commands x n h k = refl
far_other Boolean Arithmetic x n h k = refl
far_other Boolean Boolean x n h k = ne_eqb x n (omega arith)
far_other Boolean Commands x n h k = refl
far_other Commands Arithmetic x n h k = refl
far_other Commands Boolean x n h k = refl
far_other Commands Commands x n h k = ne_eqb x n (omega arith)

pub counted_far : (a : List ℕ) (t : Table) (x : ℕ) → capacity t ≤ x → Counted a a (λ u n. cond (same_table t u && eqb x n) 1 0)
counted_far a t x h = counted_none a _ (λ u n k. rw (far_other t u x n h k))

-- a count of one tells that there is one use
once : (x : ℕ) → eqb (min 2 x) 1 ≡ eqb x 1
once x =
    elim (ℕ_discrete x 1) [
      | yes e ↦ eq-eqb (min 2 x) 1 (omega arith) ∙ sym (eq-eqb x 1 e)
      | no f ↦ ne_eqb (min 2 x) 1 (omega arith) ∙ sym (ne_eqb x 1 f)
    ]

pub slot_small : (t : Table) (n : ℕ) → n < capacity t → slot t n < 1024
unfolding capacity table_field slot
slot_small Arithmetic n h = omega arith
slot_small Boolean n h = omega arith
slot_small Commands n h = omega arith

pub few_used : (t : Table) (n : ℕ) → n ≤ (table_field t).most → to_be_used t n ≤ capacity t
unfolding capacity to_be_used
few_used Arithmetic n h = h
few_used Boolean n h = h
few_used Commands n h = omega arith

-- question 10 of an entry, asked of its slot
pub use_asked : (s counts : List ℕ) (t : Table) (n k at : ℕ) {v : Validity}
    → UsesIn s counts → n < capacity t → k ≡ slot t n → at ≡ entry_offset s t n → v ≡ ask (eqb (get_or counts k 0) 1) 10 at → v ≡ use_validity s t n
unfolding use_validity
use_asked s counts t n k at u h e f v = rw (← once (uses s t n), ← u.each t n h, ← e, ← f) v
