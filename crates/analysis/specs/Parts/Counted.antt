-- That some records of a solution are indexed is told in one way, since the index tells how many: so a struct can hold it as a ghost field.
use Rattle.std.specs.Prelude.{◌≡◌, ℕ, zero, suc, ◌+◌, ◌≤◌, ◌<◌, Bool, true, false, cond, List}
use Rattle.std.specs.Coded.{Coded-set, coded_ℕ, le_prop}
use Rattle.std.proofs.Common.{refl, sym, ◌∙◌, arith, eqb, eq-eqb}
use mathlib.Core.HLevel.{is_prop→PathP}
use Rattle.analysis.specs.Parts.Judging.{Ordered}
use Rattle.analysis.specs.Parts.Membership.{last_below, bucket, spread, Factored, Weighed, Chained, Indexed}
use Rattle.analysis.specs.Records.{record_at}

ℕ-set : (a b : ℕ) → IsProp (a ≡ b)
ℕ-set = Coded-set coded_ℕ

factored_prop : (index : List ℕ) → IsProp (Factored index)
factored_prop index a b = λ i. record { sized = ℕ-set _ _ a.sized b.sized i; each = λ k h. ℕ-set _ _ (a.each k h) (b.each k h) i }

chained_prop : (hashAt : ℕ → ℕ) (n : ℕ) (index : List ℕ) → IsProp (Chained hashAt n index)
chained_prop hashAt n index a b = λ i. record { last = λ h l. ℕ-set _ _ (a.last h l) (b.last h l) i; lower = λ k l. ℕ-set _ _ (a.lower k l) (b.lower k l) i }

indexed_prop : (width : ℕ) (bytes : List ℕ) (n : ℕ) (index : List ℕ) → IsProp (Indexed width bytes n index)
indexed_prop width bytes n index a b = λ i. record {
  few = le_prop a.few b.few i;
  room = le_prop a.room b.room i;
  factored = factored_prop index a.factored b.factored i;
  chained = chained_prop _ n index a.chained b.chained i;
}

weighed_prop : (names : ℕ) (rho : List ℕ) (weight : ℕ) → IsProp (Weighed names rho weight)
weighed_prop names rho weight a b = λ i. record {
  front = record { few = le_prop a.front.few b.front.few i; long = ℕ-set _ _ a.front.long b.front.long i };
  weighed = ℕ-set _ _ a.weighed b.weighed i;
  small = le_prop a.small b.small i;
}

-- the last below n is not past n
last_low : (test : ℕ → Bool) (n : ℕ) → last_below n test ≤ n
unfolding last_below
last_low test zero = omega arith
last_low test (suc n) = by (last_low test n) (test n)
  where
    by : last_below n test ≤ n → (b : Bool) → cond b (suc n) (last_below n test) ≤ suc n
    by l true = omega arith
    by l false = omega arith

-- and after one that passes it is that one
last_here : (test : ℕ → Bool) (n : ℕ) → test n ≡ true → last_below (suc n) test ≡ suc n
unfolding last_below
last_here test n p = rw p refl

-- an index tells how many records it has
not_more : (width : ℕ) (bytes : List ℕ) (n m : ℕ) (index : List ℕ) → Indexed width bytes n index → Indexed width bytes (suc m) index → suc m ≤ n
unfolding bucket spread
not_more width bytes n m index a b =
    let h = bucket (record_at width bytes m) in
    let low : h < 8192 = omega arith in
    let head = sym (a.chained.last h low) ∙ b.chained.last h low ∙ last_here _ m (eq-eqb h h refl) in
    omega (arith, head, last_low (λ k. eqb (bucket (record_at width bytes k)) h) n)

same_count : (width : ℕ) (bytes : List ℕ) (n m : ℕ) (index : List ℕ) → Indexed width bytes n index → Indexed width bytes m index → n ≡ m
same_count width bytes zero zero index a b = refl
same_count width bytes zero (suc m) index a b = absurd (omega (arith, not_more width bytes zero m index a b))
same_count width bytes (suc n) zero index a b = absurd (omega (arith, not_more width bytes zero n index b a))
same_count width bytes (suc n) (suc m) index a b = omega (arith, not_more width bytes (suc n) m index a b, not_more width bytes (suc m) n index b a)

pub ordered_prop : (names : ℕ) (solution index rho : List ℕ) (weight : ℕ) → IsProp (Ordered names solution index rho weight)
ordered_prop names solution index rho weight a b =
    let p = same_count (2 + names) solution a.count b.count index a.indexed b.indexed in
    λ i. record {
      count = p i;
      indexed = is_prop→PathP (λ i. Indexed (2 + names) solution (p i) index) (λ i. indexed_prop (2 + names) solution (p i) index) a.indexed b.indexed i;
      weighed = weighed_prop names rho weight a.weighed b.weighed i;
    }
