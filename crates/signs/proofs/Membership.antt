-- Sets of signs: what is in them, and when two are the same.
use mathlib.Core.Path.{◌≡◌, refl, sym, ap, ◌∙◌}
use mathlib.Core.Bool.{Bool, false, cond, not, ◌&&◌, ◌||◌, beq}
use mathlib.Core.List.{List, [], ◌∷◌, Memᴰ}
use Prim.Native.Nat.{ℕ, ◌+◌, ◌-◌, ◌/◌, ◌%◌, ◌≤◌, ◌<◌}
use native.Mathlib.Nat.{mod-lt}
use native.Mathlib.Omega.{arith}
use lib.Bits.{bit_or, or_mod}
use lib.Dec.{T, eqb, leb, ltb, leb→le, ltb→lt, eqb→eq, lit<}
use mir.Facts.{and_yes, yes_and}
use Rattle.signs.specs.Lists.{any_of, passing}
use Rattle.signs.specs.Sign.{has, single, signs, set_of, members, unite, union_all, added, removed}
use Rattle.signs.specs.declared.Sign.{Sign}
use Rattle.signs.specs.declared.Sign.TheVariants.{Minus, Zero, Plus}
use Rattle.signs.proofs.Finite.{every_sign, at_sign, every_bool, at_bool, every_below, at_below, at_sets, beq_eq}
use Rattle.signs.proofs.Lists.{any_of_cong, any_of_mono, and_mono, any_of_passing, passing_keeps, passing_passes, or_left, or_right}

-- the set with the signs that are said to be in it
abbrev of : Bool → Bool → Bool → ℕ
of m z p = cond m 1 0 + cond z 2 0 + cond p 4 0

abbrev chosen : Bool → Bool → Bool → Sign → Bool
chosen m z p Minus = m
chosen m z p Zero = z
chosen m z p Plus = p

has_of : (m z p : Bool) (s : Sign) → has (of m z p) s ≡ chosen m z p s
unfolding has single
has_of m z p s =
    beq_eq (has (of m z p) s) (chosen m z p s)
    (at_sign (λ s. beq (has (of m z p) s) (chosen m z p s))
    (at_bool (λ p. every_sign (λ s. beq (has (of m z p) s) (chosen m z p s)))
    (at_bool (λ z. every_bool (λ p. every_sign (λ s. beq (has (of m z p) s) (chosen m z p s))))
    (at_bool (λ m. every_bool (λ z. every_bool (λ p. every_sign (λ s. beq (has (of m z p) s) (chosen m z p s))))) tt m) z) p) s)

pub has_set_of : (f : Sign → Bool) (s : Sign) → has (set_of f) s ≡ f s
unfolding set_of
has_set_of f s = has_of (f Minus) (f Zero) (f Plus) s ∙ go s
  where
    go : (s : Sign) → chosen (f Minus) (f Zero) (f Plus) s ≡ f s
    go Minus = refl
    go Zero = refl
    go Plus = refl

below_of : (m z p : Bool) → of m z p < 8
below_of m z p =
    ltb→lt (of m z p) 8
    (at_bool (λ p. ltb (of m z p) 8) (at_bool (λ z. every_bool (λ p. ltb (of m z p) 8)) (at_bool (λ m. every_bool (λ z. every_bool (λ p. ltb (of m z p) 8))) tt m) z) p)

pub set_of_below : (f : Sign → Bool) → set_of f < 8
unfolding set_of
set_of_below f = below_of (f Minus) (f Zero) (f Plus)

pub single_below : (s : Sign) → single s < 8
unfolding single
single_below Minus = omega arith
single_below Zero = omega arith
single_below Plus = omega arith

pub set_of_has : (set : ℕ) → set < 8 → set_of (has set) ≡ set
unfolding set_of has single
set_of_has set h = eqb→eq (set_of (has set)) set (at_below 8 (λ n. eqb (set_of (has n)) n) tt set h)

-- two sets with the same signs are the same
pub same_set : (a b : ℕ) → a < 8 → b < 8 → ((s : Sign) → has a s ≡ has b s) → a ≡ b
unfolding set_of
same_set a b ha hb h = sym (set_of_has a ha) ∙ go ∙ set_of_has b hb
  where
    go : set_of (has a) ≡ set_of (has b)
    go = rw (h Minus, h Zero, h Plus)

-- a number above 7 is the set of its remainder by 8
pub has_remainder : (n : ℕ) (s : Sign) → has (n % 8) s ≡ has n s
unfolding has single
has_remainder n Minus = let e : n % 8 / 1 % 2 ≡ n / 1 % 2 = omega arith in rw e
has_remainder n Zero = let e : n % 8 / 2 % 2 ≡ n / 2 % 2 = omega arith in rw e
has_remainder n Plus = let e : n % 8 / 4 % 2 ≡ n / 4 % 2 = omega arith in rw e

pub members_remainder : (n : ℕ) → members (n % 8) ≡ members n
unfolding members passing signs
members_remainder n = simp has_remainder

pub has_empty : (s : Sign) → has 0 s ≡ false
unfolding has single
has_empty s = beq_eq (has 0 s) false (at_sign (λ s. beq (has 0 s) false) tt s)

pub has_unite : (a b : ℕ) (s : Sign) → has (unite a b) s ≡ (has a s || has b s)
unfolding unite
has_unite a b s = has_set_of (λ s. has a s || has b s) s

pub unite_below : (a b : ℕ) → unite a b < 8
unfolding unite
unite_below a b = set_of_below (λ s. has a s || has b s)

unite_remainder : (a b : ℕ) → unite (a % 8) (b % 8) ≡ unite a b
unfolding unite set_of
unite_remainder a b = simp has_remainder

pub has_union_all : (l : List ℕ) (s : Sign) → has (union_all l) s ≡ any_of (λ a. has a s) l
unfolding union_all any_of
has_union_all [] s = has_empty s
has_union_all (a ∷ l) s = has_unite a (union_all l) s ∙ ap (λ (b : Bool). has a s || b) (has_union_all l s)

pub union_all_below : (l : List ℕ) → union_all l < 8
unfolding union_all
union_all_below [] = omega arith
union_all_below (a ∷ l) = unite_below a (union_all l)

pub has_added : (s : Sign) (set : ℕ) (t : Sign) → has (added s set) t ≡ (has set t || has (single s) t)
unfolding added
has_added s set t = has_unite set (single s) t

added_remainder : (s : Sign) (set : ℕ) → added s (set % 8) ≡ added s set
unfolding added unite set_of
added_remainder s set = simp has_remainder

removed_remainder : (s : Sign) (set : ℕ) → removed s (set % 8) ≡ removed s set
unfolding removed set_of
removed_remainder s set = simp has_remainder

pub has_removed : (s : Sign) (set : ℕ) (t : Sign) → has (removed s set) t ≡ (has set t && not (has (single s) t))
unfolding removed
has_removed s set t = has_set_of (λ t. has set t && not (has (single s) t)) t

-- the members of a set, as a test over the three signs
pub any_of_members : (p : Sign → Bool) (set : ℕ) → any_of p (members set) ≡ any_of (λ s. has set s && p s) signs
unfolding members
any_of_members p set = any_of_passing p (has set) signs

-- the machine's `or` of two sets
pub unite_or : (a b : ℕ) → bit_or a b % 8 ≡ unite a b
unfolding unite set_of has single
unite_or a b =
    or_mod a b 3
    ∙ sym (eqb→eq (unite (a % 8) (b % 8)) (bit_or (a % 8) (b % 8)) (at_sets (λ a b. eqb (unite a b) (bit_or a b)) tt a b))
    ∙ unite_remainder a b

-- a sign can be taken off where it was added
off : (s : Sign) (set : ℕ) → (single s ≤ added s (set % 8)) × (added s (set % 8) - single s ≡ removed s (set % 8))
unfolding added removed unite set_of has single
off s set = (leb→le (single s) (added s (set % 8)) both.0, eqb→eq (added s (set % 8) - single s) (removed s (set % 8)) both.1)
  where
    right : Sign → ℕ → Bool
    right s n = leb (single s) (added s n) && eqb (added s n - single s) (removed s n)

    both : T (leb (single s) (added s (set % 8))) × T (eqb (added s (set % 8) - single s) (removed s (set % 8)))
    both =
        and_yes (leb (single s) (added s (set % 8))) (eqb (added s (set % 8) - single s) (removed s (set % 8)))
        (at_below 8 (right s) (at_sign (λ s. every_below 8 (right s)) tt s) (set % 8) (mod-lt set (lit< tt)))

pub taken_off_lem : (s : Sign) (set : ℕ) → (single s ≤ added s set) × (added s set - single s ≡ removed s set)
taken_off_lem s set = rw (sym (added_remainder s set), sym (removed_remainder s set)) (off s set)

-- the set of one sign has it, and no other
pub has_single : (s : Sign) → T (has (single s) s)
unfolding has single
has_single s = at_sign (λ s. has (single s) s) tt s

pub single_only : (s t : Sign) → T (has (single s) t) → s ≡ t
unfolding has single
single_only Minus Minus h = refl
single_only Minus Zero h = absurd h
single_only Minus Plus h = absurd h
single_only Zero Minus h = absurd h
single_only Zero Zero h = refl
single_only Zero Plus h = absurd h
single_only Plus Minus h = absurd h
single_only Plus Zero h = absurd h
single_only Plus Plus h = refl

-- the three signs are all signs
every : (s : Sign) → Memᴰ s signs
unfolding signs
every Minus = Memᴰ.head refl
every Zero = Memᴰ.tail (Memᴰ.head refl)
every Plus = Memᴰ.tail (Memᴰ.tail (Memᴰ.head refl))

pub member_has : (set : ℕ) (s : Sign) → Memᴰ s (members set) → T (has set s)
unfolding members
member_has set s m = passing_passes (has set) signs m

pub has_member : (set : ℕ) (s : Sign) → T (has set s) → Memᴰ s (members set)
unfolding members
has_member set s h = passing_keeps (has set) signs (every s) h

-- a test that passes at a sign passes at some sign
pub at_signs : (p : Sign → Bool) (s : Sign) → T (p s) → T (any_of p signs)
unfolding any_of signs
at_signs p Minus t = or_left (p Minus) _ t
at_signs p Zero t = or_right (p Minus) _ (or_left (p Zero) _ t)
at_signs p Plus t = or_right (p Minus) _ (or_right (p Zero) _ (or_left (p Plus) false t))

-- whether a test passes at some pair of members of two sets
abbrev pub some_pair : (Sign → Sign → Bool) → ℕ → ℕ → Bool
some_pair p a b = any_of (λ l. has a l && any_of (λ r. has b r && p l r) signs) signs

pub any_of_member_pairs : (p : Sign → Sign → Bool) (a b : ℕ) → any_of (λ l. any_of (p l) (members b)) (members a) ≡ some_pair p a b
any_of_member_pairs p a b =
    any_of_cong (λ l. any_of (p l) (members b)) (λ l. any_of (λ r. has b r && p l r) signs) (λ l. any_of_members (p l) b) (members a)
    ∙ any_of_members (λ l. any_of (λ r. has b r && p l r) signs) a

pub pair_entry : (p : Sign → Sign → Bool) (a b : ℕ) (l r : Sign) → T (has a l) → T (has b r) → T (p l r) → T (some_pair p a b)
pair_entry p a b l r ha hb h =
    at_signs (λ l. has a l && any_of (λ r. has b r && p l r) signs) l
    (yes_and (has a l) _ ha (at_signs (λ r. has b r && p l r) r (yes_and (has b r) _ hb h)))

-- every sign of one set is one of the other
abbrev pub Within : ℕ → ℕ → Type 0
Within a b = (s : Sign) → T (has a s) → T (has b s)

pub pair_monotone : (p : Sign → Sign → Bool) (a a' b b' : ℕ) → Within a a' → Within b b' → T (some_pair p a b) → T (some_pair p a' b')
pair_monotone p a a' b b' ha hb =
    any_of_mono (λ l. has a l && any_of (λ r. has b r && p l r) signs) (λ l. has a' l && any_of (λ r. has b' r && p l r) signs)
    (λ l. and_mono (has a l) _ (has a' l) _ (ha l)
    (any_of_mono (λ r. has b r && p l r) (λ r. has b' r && p l r) (λ r. and_mono (has b r) _ (has b' r) _ (hb r) (λ t. t)) signs))
    signs
