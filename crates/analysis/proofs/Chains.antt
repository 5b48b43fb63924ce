-- The index of records: what one more record changes in it, and what following a chain passes over.
use Rattle.std.proofs.Common.{◌≡◌, ℕ, zero, suc, ◌+◌, ◌-◌, ◌*◌, ◌<◌, ◌≤◌, Bool, true, false, cond, ◌&&◌, ◌||◌, T, eqb, List, [], ◌∷◌, length, get_or, take, set, sym, refl, ap, ◌∙◌, subst, mul-le-mul_left, mul-zero, mul-suc, arith, length-set, get_or-set_other, get_or-set_same, eq-eqb, ne_eqb, eqb-true}
use mathlib.Core.Bool.{and-true, and_assoc, or-true}
use native.Mathlib.Decide.{ℕ_discrete}
use Rattle.signs.proofs.Lists.{or_false}
use Rattle.analysis.specs.Parts.Membership.{last_below, any_below, among, bucket, spread, Factored, Chained, Indexed, Sought}
use Rattle.analysis.specs.Records.{record_at, same_signs}
use Rattle.analysis.proofs.Accepted.{signs_same}

-- one byte more of two records
pub same_more : (a b : List ℕ) (i : ℕ) → i < length a → i < length b
    → same_signs (take (suc i) a) (take (suc i) b) ≡ (same_signs (take i a) (take i b) && eqb (get_or a i 0) (get_or b i 0))
unfolding same_signs
same_more [] b i h l = absurd (omega arith)
same_more (x ∷ xs) [] i h l = absurd (omega arith)
same_more (x ∷ xs) (y ∷ ys) zero h l = and-true (eqb x y)
same_more (x ∷ xs) (y ∷ ys) (suc i) h l = rw (same_more xs ys i (omega arith) (omega arith)) (sym (and_assoc (eqb x y) (same_signs (take i xs) (take i ys)) _))

-- the last below n that passes: it is not past n, and it passes
module _ (test : ℕ → Bool) where
  last_below_lem : (n : ℕ) → last_below n test ≤ n
  unfolding last_below
  last_below_lem zero = omega arith
  last_below_lem (suc n) = by (last_below_lem n) (test n)
    where
      by : last_below n test ≤ n → (b : Bool) → cond b (suc n) (last_below n test) ≤ suc n
      by l true = omega arith
      by l false = omega arith

  last_passes : (n k : ℕ) → last_below n test ≡ suc k → test k ≡ true
  unfolding last_below
  last_passes zero k e = absurd (omega arith)
  last_passes (suc n) k e = by (last_passes n k) (test n) refl e
    where
      by : (last_below n test ≡ suc k → test k ≡ true) → (b : Bool) → test n ≡ b → cond b (suc n) (last_below n test) ≡ suc k → test k ≡ true
      by below true p e = ap test (omega arith) ∙ p
      by below false p e = below e

  -- where nothing passes a second test but what passes the first, some number below n passes it if some one up to the last does
  any_last : (wanted : ℕ → Bool) (n : ℕ) → ((k : ℕ) → k < n → test k ≡ false → wanted k ≡ false) → any_below n wanted ≡ any_below (last_below n test) wanted
  unfolding last_below any_below
  any_last wanted zero h = refl
  any_last wanted (suc n) h = by (any_last wanted n (λ k l. h k (omega arith))) (test n) refl
    where
      by : any_below n wanted ≡ any_below (last_below n test) wanted → (b : Bool) → test n ≡ b
          → (any_below n wanted || wanted n) ≡ any_below (cond b (suc n) (last_below n test)) wanted
      by below true p = refl
      by below false p = rw (h n (omega arith) p) (or_false (any_below n wanted) ∙ below)

-- the same test up to n has the same last
pub last_same : (p q : ℕ → Bool) (n : ℕ) → ((k : ℕ) → k < n → p k ≡ q k) → last_below n p ≡ last_below n q
unfolding last_below
last_same p q zero h = refl
last_same p q (suc n) h = rw (h n (omega arith), last_same p q n (λ k l. h k (omega arith)))

-- an empty index, and one number more, before the others of its chain
module _ (hashAt : ℕ → ℕ) where
  chained_none : (index : List ℕ) → ((i : ℕ) → 34 ≤ i → get_or index i 0 ≡ 0) → Chained hashAt 0 index
  unfolding last_below
  chained_none index zeros = record { last = λ h l. zeros (34 + h) (omega arith); lower = λ k l. absurd (omega arith) }

  chained_more : (n h : ℕ) (index : List ℕ) → length index ≡ 12322 → n < 4096 → h < 8192 → h ≡ hashAt n → Chained hashAt n index
      → Chained hashAt (suc n) (set (set index (8226 + n) (get_or index (34 + h) 0)) (34 + h) (suc n))
  unfolding last_below
  chained_more n h index sized few small e x =
      let linked = set index (8226 + n) (get_or index (34 + h) 0) in
      let long = length-set index (8226 + n) (get_or index (34 + h) 0) in
      record {
        last = λ j l.
            elim (ℕ_discrete j h) [
              | yes p ↦ rw (p, get_or-set_same linked (34 + h) (suc n) 0 (omega (arith, sized, long)), eq-eqb (hashAt n) h (sym e))
              | no d ↦
                  rw (get_or-set_other linked (34 + h) (34 + j) (suc n) 0 (λ q. d (omega arith)), get_or-set_other index (8226 + n) (34 + j) (get_or index (34 + h) 0) 0 (λ q. absurd (omega arith)), ne_eqb (hashAt n) j (λ q. d (sym q ∙ sym e)))
                  (x.last j l)
            ];
        lower = λ k l.
            get_or-set_other linked (34 + h) (8226 + k) (suc n) 0 (λ q. absurd (omega arith))
            ∙ elim (ℕ_discrete k n) [
              | yes p ↦ rw (p, get_or-set_same index (8226 + n) (get_or index (34 + h) 0) 0 (omega (arith, sized)), ← e) (x.last h small)
              | no d ↦ get_or-set_other index (8226 + n) (8226 + k) _ 0 (λ q. d (omega arith)) ∙ x.lower k (omega arith)
            ];
      }

-- a record that is there
pub record_inside : (width k n len : ℕ) → k < n → width * n ≤ len → width * k + width ≤ len
record_inside width k n len h room = omega (arith, mul-le-mul_left {m = suc k} {n = n} width h, mul-suc width k)

module _ (width : ℕ) (bytes : List ℕ) where
  pub indexed_none : (index : List ℕ) → Factored index → ((i : ℕ) → 34 ≤ i → get_or index i 0 ≡ 0) → Indexed width bytes 0 index
  indexed_none index factored zeros = record { few = omega arith; room = omega (arith, mul-zero width); factored = factored; chained = chained_none _ index zeros }

  pub indexed_more : (n h : ℕ) (index : List ℕ) → n < 4096 → h < 8192 → Indexed width bytes n index → width * suc n ≤ length bytes
      → h ≡ bucket (record_at width bytes n) → Indexed width bytes (suc n) (set (set index (8226 + n) (get_or index (34 + h) 0)) (34 + h) (suc n))
  indexed_more n h index few small x room e =
      record {
        few = few;
        room = room;
        factored =
            record {
              sized = length-set (set index (8226 + n) (get_or index (34 + h) 0)) (34 + h) (suc n) ∙ length-set index (8226 + n) (get_or index (34 + h) 0) ∙ x.factored.sized;
              each =
                  λ i l. get_or-set_other (set index (8226 + n) (get_or index (34 + h) 0)) (34 + h) i (suc n) 0 (λ q. absurd (omega arith))
                  ∙ get_or-set_other index (8226 + n) i (get_or index (34 + h) 0) 0 (λ q. absurd (omega arith)) ∙ x.factored.each i l;
            };
        chained = chained_more _ n h index x.factored.sized few small e x.chained;
      }

pub bucket_small : (r : List ℕ) → bucket r < 8192
unfolding bucket spread
bucket_small r = omega arith

-- where following the chain of a record has come to: if one of the n is that record, one up to there is, and the one there has its hash
pub record Walked (width : ℕ) (bytes : List ℕ) (n : ℕ) (r : List ℕ) (h link : ℕ) : Type 0 where
  pub inside : link ≤ n
  pub left : among width bytes n r ≡ among width bytes link r
  pub here : (k : ℕ) → link ≡ suc k → bucket (record_at width bytes k) ≡ h

-- the record before a link is one of few and is all there, and the chain goes down from it
pub record There (width : ℕ) (bytes index : List ℕ) (link : ℕ) : Type 0 where
  pub few : link - 1 < 4096
  pub room : width * (link - 1) + width ≤ length bytes
  pub down : get_or index (8226 + (link - 1)) 0 < link

module _ (width : ℕ) (bytes : List ℕ) (n : ℕ) (index r : List ℕ) (h : ℕ) (x : Sought width bytes n index r h) where
  abbrev in_chain : ℕ → Bool
  in_chain k = eqb (bucket (record_at width bytes k)) h

  passed_over : (k : ℕ) → in_chain k ≡ false → same_signs (record_at width bytes k) r ≡ false
  passed_over k e = by (same_signs (record_at width bytes k) r) refl
    where
      by : (b : Bool) → same_signs (record_at width bytes k) r ≡ b → b ≡ false
      by true p = sym (eq-eqb (bucket (record_at width bytes k)) h (ap bucket (signs_same _ r (subst T (sym p) tt)) ∙ sym x.hashed)) ∙ e
      by false p = refl

  -- the last of the first m in the chain
  walked_last : (m link : ℕ) → m ≤ n → link ≡ last_below m in_chain → among width bytes n r ≡ among width bytes m r → Walked width bytes n r h link
  unfolding among
  walked_last m link l p e =
      record {
        inside = omega (arith, p, last_below_lem in_chain m);
        left = rw p (e ∙ any_last in_chain (λ k. same_signs (record_at width bytes k) r) m (λ k b. passed_over k));
        here = λ k q. eqb-true (bucket (record_at width bytes k)) h (last_passes in_chain m k (sym p ∙ q));
      }

  pub hash_small : h < 8192
  hash_small = omega (arith, x.hashed, bucket_small r)

  pub walked_first : Walked width bytes n r h (get_or index (34 + h) 0)
  walked_first = walked_last n _ (omega arith) (x.indexed.chained.last h hash_small) refl

  pub found_nowhere : (link : ℕ) → link ≤ 0 → Walked width bytes n r h link → false ≡ among width bytes n r
  unfolding among any_below
  found_nowhere link none w = let z : link ≡ 0 = omega arith in sym (w.left ∙ rw z)

  module _ (link : ℕ) (some : 0 < link) (w : Walked width bytes n r h link) where
    one_more : link ≡ suc (link - 1)
    one_more = omega arith

    lower : get_or index (8226 + (link - 1)) 0 ≡ last_below (link - 1) in_chain
    lower =
        x.indexed.chained.lower (link - 1) (omega (arith, w.inside))
        ∙ ap (λ (g : ℕ). last_below (link - 1) (λ j. eqb (bucket (record_at width bytes j)) g)) (w.here (link - 1) one_more)

    pub walked_there : There width bytes index link
    walked_there =
        record {
          few = omega (arith, w.inside, x.indexed.few);
          room = record_inside width (link - 1) n (length bytes) (omega (arith, w.inside)) x.indexed.room;
          down = omega (arith, lower, last_below_lem in_chain (link - 1));
        }

    -- as the code compares the record there
    module _ (b : Bool) (e : b ≡ same_signs (record_at width bytes (link - 1)) r) where
      up_to_here : among width bytes n r ≡ (among width bytes (link - 1) r || b)
      unfolding among any_below
      up_to_here = w.left ∙ ap (λ (m : ℕ). among width bytes m r) one_more ∙ rw e

      pub walked_on : b ≡ false → Walked width bytes n r h (get_or index (8226 + (link - 1)) 0)
      walked_on f = walked_last (link - 1) _ (omega (arith, w.inside)) lower (up_to_here ∙ rw f (or_false (among width bytes (link - 1) r)))

      pub found_here : b ≡ true → true ≡ among width bytes n r
      found_here t = sym (up_to_here ∙ rw t (or-true (among width bytes (link - 1) r)))
