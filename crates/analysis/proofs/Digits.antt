-- Sets as digits of a number: how a number is read back, set by set; and the sets of a set's members, as the code packs them.
use Rattle.std.proofs.Common.{◌≡◌, ℕ, zero, suc, ◌+◌, ◌*◌, ◌/◌, ◌%◌, ◌<◌, Bool, true, false, cond, T, eqb, List, [], ◌∷◌, ◌++◌, map, sym, refl, ap, ◌∙◌, subst, append_assoc, append-nil, arith, ne_eqb}
use mathlib.Core.List.{flat_map}
use Rattle.signs.specs.Lists.{passing}
use Rattle.signs.specs.Sign.{signs, has, members, single, added, removed}
use Rattle.signs.specs.declared.Sign.{Sign}
use Rattle.signs.specs.declared.Sign.TheVariants.{Minus, Zero, Plus}
use Rattle.signs.proofs.Laws.{has_empty, has_single, has_added, single_below, added_below}
use Rattle.signs.proofs.Lists.{or_right}
use Rattle.analysis.specs.Parts.Changing.{packed, digits, sets_of, Before}
use Rattle.analysis.specs.Results.{assigned_sets, sets_with, stored_sets}

-- how many numbers have at most k digits
unfoldable pub room : ℕ → ℕ
room zero = 1
room (suc k) = 8 * room k

-- ---- Reading back

some_digit : (n : ℕ) → 0 < n → eqb n 0 ≡ false
some_digit n h = ne_eqb n 0 (λ e. omega (arith, e))

-- a number of at most k digits has no more
no_more : (k n : ℕ) → n < room k → digits (suc k) n ≡ digits k n
unfolding digits room
no_more zero zero h = refl
no_more zero (suc n) h = absurd (omega arith)
no_more (suc k) n h = ap (λ (ds : List ℕ). cond (eqb n 0) [] (n % 8 ∷ ds)) (no_more k (n / 8) (omega arith))

-- how a loop reads the sets: none of 0, else the lowest digit and then the others
pub sets_none : sets_of 0 ≡ []
unfolding sets_of digits
sets_none = refl

pub sets_next : (n : ℕ) → 0 < n → n < 68719476736 → sets_of n ≡ n % 8 ∷ sets_of (n / 8)
unfolding sets_of digits room
sets_next n h few = rw (some_digit n h) (ap (λ (ds : List ℕ). n % 8 ∷ ds) (sym (no_more 11 (n / 8) (omega arith))))

-- ---- Packing

packed_append : (xs ys : List ℕ) (n : ℕ) → packed (xs ++ ys) n ≡ packed xs (packed ys n)
unfolding packed
packed_append [] ys n = refl
packed_append (x ∷ xs) ys n = ap (λ (m : ℕ). m * 8 + x) (packed_append xs ys n)

-- three lists of sets, packed one before another from the last
pub three_before : {xs ys zs : List ℕ} {a b c d e f o p q r : ℕ} → Before xs a b q r → Before ys c d p q → Before zs e f o p → r ≡ packed (xs ++ (ys ++ (zs ++ []))) o
unfolding packed
three_before {xs} {ys} {zs} {o = o} x y z =
    x.packs
    ∙ ap (packed xs) (y.packs ∙ ap (packed ys) (z.packs ∙ sym (packed_append zs [] o)) ∙ sym (packed_append ys (zs ++ []) o))
    ∙ sym (packed_append xs (ys ++ (zs ++ [])) o)

-- some sets, none of them 0, that at most k digits have room for: read back they are those
pub record Few (k : ℕ) (sets : List ℕ) : Type 0 where
  pub inside : packed sets 0 < room k
  pub back : digits k (packed sets 0) ≡ sets

few_none : (k : ℕ) → Few k []
unfolding packed digits room
few_none zero = record { inside = omega arith; back = refl }
few_none (suc k) = record { inside = omega (arith, (few_none k).inside); back = refl }

few_more : (k : ℕ) (sets : List ℕ) → Few k sets → Few (suc k) sets
unfolding room
few_more k sets f = record { inside = omega (arith, f.inside); back = no_more k (packed sets 0) f.inside ∙ f.back }

few_first : (k s : ℕ) (sets : List ℕ) → 0 < s → s < 8 → Few k sets → Few (suc k) (s ∷ sets)
unfolding packed digits room
few_first k s sets some small f =
    let n = packed sets 0 in
    let low : (n * 8 + s) % 8 ≡ s = omega arith in
    let high : (n * 8 + s) / 8 ≡ n = omega arith in
    record { inside = omega (arith, f.inside); back = rw (some_digit (n * 8 + s) (omega arith), low, high) (ap (λ (ds : List ℕ). s ∷ ds) f.back) }

-- lists of at most k sets, which can stand before others
abbrev Puts : ℕ → List ℕ → Type 0
Puts k xs = (j : ℕ) (others : List ℕ) → Few j others → Few (k + j) (xs ++ others)

puts_one : (s : ℕ) → 0 < s → s < 8 → Puts 1 (s ∷ [])
puts_one s some small j others f = rw (plus_one j) (few_first j s others some small f)
  where
    plus_one : (j : ℕ) → 1 + j ≡ suc j
    plus_one j = omega arith

puts_more : (k j : ℕ) (others : List ℕ) → Few j others → Few (k + j) others
puts_more zero j others f = subst (λ (n : ℕ). Few n others) (omega arith) f
puts_more (suc k) j others f = subst (λ (n : ℕ). Few n others) (omega arith) (few_more (k + j) others (puts_more k j others f))

puts_where : (k : ℕ) (b : Bool) (xs : List ℕ) → Puts k xs → Puts k (cond b xs [])
puts_where k true xs p = p
puts_where k false xs p = puts_more k

puts_then : (k l : ℕ) (xs ys : List ℕ) → Puts k xs → Puts l ys → Puts (k + l) (xs ++ ys)
puts_then k l xs ys p q j others f =
    rw (append_assoc xs ys others) (subst (λ (n : ℕ). Few n (xs ++ (ys ++ others))) (omega arith) (p (l + j) (ys ++ others) (q j others f)))

-- ---- The sets of a set's members, sign by sign

step : (f : Sign → List ℕ) (b : Bool) (s : Sign) (ss : List Sign) → flat_map f (cond b (s ∷ ss) ss) ≡ cond b (f s) [] ++ flat_map f ss
unfolding flat_map
step f true s ss = refl
step f false s ss = refl

pub each_member : (f : Sign → List ℕ) (set : ℕ) → flat_map f (members set) ≡ cond (has set Minus) (f Minus) [] ++ (cond (has set Zero) (f Zero) [] ++ (cond (has set Plus) (f Plus) [] ++ []))
unfolding members passing signs flat_map
each_member f set =
    step f (has set Minus) Minus _
    ∙ ap (λ (xs : List ℕ). cond (has set Minus) (f Minus) [] ++ xs)
    (step f (has set Zero) Zero _ ∙ ap (λ (xs : List ℕ). cond (has set Zero) (f Zero) [] ++ xs) (step f (has set Plus) Plus []))

singles : (f : Sign → ℕ) (ss : List Sign) → map f ss ≡ flat_map (λ s. f s ∷ []) ss
unfolding flat_map
singles f [] = refl
singles f (s ∷ ss) = ap (λ (xs : List ℕ). f s ∷ xs) (singles f ss)

pub one_each : (f : Sign → ℕ) (set : ℕ) → map f (members set) ≡ cond (has set Minus) (f Minus ∷ []) [] ++ (cond (has set Zero) (f Zero ∷ []) [] ++ (cond (has set Plus) (f Plus ∷ []) [] ++ []))
one_each f set = singles f (members set) ∙ each_member (λ s. f s ∷ []) set

-- at most k for each member
puts_each : (k : ℕ) (f : Sign → List ℕ) → ((s : Sign) → Puts k (f s)) → (set : ℕ) → Puts (k + (k + (k + 0))) (flat_map f (members set))
puts_each k f p set =
    rw (each_member f set)
    (puts_then k (k + (k + 0)) (here Minus) (here Zero ++ (here Plus ++ [])) (of Minus)
    (puts_then k (k + 0) (here Zero) (here Plus ++ []) (of Zero) (puts_then k 0 (here Plus) [] (of Plus) (puts_more 0))))
  where
    here : Sign → List ℕ
    here s = cond (has set s) (f s) []

    of : (s : Sign) → Puts k (here s)
    of s = puts_where k (has set s) (f s) (p s)

puts_singles : (f : Sign → ℕ) → ((s : Sign) → 0 < f s) → ((s : Sign) → f s < 8) → (set : ℕ) → Puts 3 (map f (members set))
puts_singles f some small set = rw (singles f (members set)) (puts_each 1 (λ s. f s ∷ []) (λ s. puts_one (f s) (some s) (small s)) set)

single_some : (s : Sign) → 0 < single s
unfolding single
single_some Minus = omega arith
single_some Zero = omega arith
single_some Plus = omega arith

added_some : (s : Sign) (set : ℕ) → 0 < added s set
added_some s set = by (added s set) refl
  where
    by : (n : ℕ) → added s set ≡ n → 0 < n
    by zero e = absurd (subst T (ap (λ (n : ℕ). has n s) e ∙ has_empty s) (rw (has_added s set s) (or_right (has set s) (has (single s) s) (has_single s))))
    by (suc n) e = omega arith

-- what an assignment and a store give, read back
pub assigned_few : (values : ℕ) → Few 12 (assigned_sets values)
unfolding assigned_sets
assigned_few values = rw (← append-nil (map single (members values))) (puts_singles single single_some single_below values 9 [] (few_none 9))

stored_puts : (old : ℕ) (s : Sign) → Puts 4 (sets_with old s)
unfolding sets_with
stored_puts old s =
    puts_then 1 3 (added s old ∷ []) (map (λ t. added s (removed t old)) (members old)) (puts_one (added s old) (added_some s old) (added_below s old))
    (puts_singles (λ t. added s (removed t old)) (λ t. added_some s (removed t old)) (λ t. added_below s (removed t old)) old)

pub stored_few : (old values : ℕ) → Few 12 (stored_sets old values)
unfolding stored_sets
stored_few old values = rw (← append-nil (flat_map (sets_with old) (members values))) (puts_each 4 (sets_with old) (stored_puts old) values 0 [] (few_none 0))
