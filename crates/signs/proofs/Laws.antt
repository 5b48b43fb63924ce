-- The laws of `signs` for the crates above, on one page. Their proofs are in the modules that they cite.
use mathlib.Core.Path.{◌≡◌, refl, sym, subst}
use mathlib.Core.Bool.{Bool, true, false, not, ◌&&◌, ◌||◌}
use mathlib.Core.List.{List, [], Memᴰ}
use Prim.Native.Nat.{ℕ, ◌/◌, ◌%◌, ◌<◌}
use lib.Dec.{T}
use lib.IntN.{ℤ}
use lib.ListN.{length, get_or}
use mir.Facts.{yes_and}
use Rattle.signs.specs.Grid.{grid, operate, set_rows, set_table, operate_by}
use Rattle.signs.specs.Lists.{any_of, pairs}
use Rattle.signs.specs.Number.{apply, compares, value_numbers}
use Rattle.signs.specs.Sign.{sign_of, single, signs, has, set_of, members, unite, union_all, added, removed}
use Rattle.signs.specs.Truth.{truths_of, among, compare_signs, compare_sets, certain, negated, conjoined, and_then}
use Rattle.signs.specs.declared.Comparison.{Comparison}
use Rattle.signs.specs.declared.Operator.{Operator}
use Rattle.signs.specs.declared.Sign.{Sign}
use Rattle.signs.specs.declared.Truths.{Truths}
use Rattle.std.specs.Prelude.{Result, Ok}
use Rattle.signs.specs.declared.Reason.{Reason}
use Rattle.signs.proofs.Answers
use Rattle.signs.proofs.Arithmetic
use Rattle.signs.proofs.Compared
use Rattle.signs.proofs.Lists.{and_mono, or_mono, or_left, or_right}
use Rattle.signs.proofs.Membership
use Rattle.signs.proofs.Membership.{Within, some_pair, pair_entry, pair_monotone}
use Rattle.signs.proofs.Operate
use Rattle.signs.proofs.Readback

-- ---- Sets. A set above 7 is that of its remainder by 8; what an operation gives is below 8.

-- `Within a b`: every sign of one set is one of the other. `some_pair p a b`: a test passes at some pair of members of two sets.

pub has_remainder : (n : ℕ) (s : Sign) → has (n % 8) s ≡ has n s
has_remainder = Membership.has_remainder

pub has_empty : (s : Sign) → has 0 s ≡ false
has_empty = Membership.has_empty

pub has_single : (s : Sign) → T (has (single s) s)
has_single = Membership.has_single

pub single_only : (s t : Sign) → T (has (single s) t) → s ≡ t
single_only = Membership.single_only

pub has_set_of : (f : Sign → Bool) (s : Sign) → has (set_of f) s ≡ f s
has_set_of = Membership.has_set_of

pub set_of_has : (set : ℕ) → set < 8 → set_of (has set) ≡ set
set_of_has = Membership.set_of_has

pub same_set : (a b : ℕ) → a < 8 → b < 8 → ((s : Sign) → has a s ≡ has b s) → a ≡ b
same_set = Membership.same_set

pub has_unite : (a b : ℕ) (s : Sign) → has (unite a b) s ≡ (has a s || has b s)
has_unite = Membership.has_unite

pub has_union_all : (l : List ℕ) (s : Sign) → has (union_all l) s ≡ any_of (λ a. has a s) l
has_union_all = Membership.has_union_all

pub has_added : (s : Sign) (set : ℕ) (t : Sign) → has (added s set) t ≡ (has set t || has (single s) t)
has_added = Membership.has_added

pub has_removed : (s : Sign) (set : ℕ) (t : Sign) → has (removed s set) t ≡ (has set t && not (has (single s) t))
has_removed = Membership.has_removed

pub single_below : (s : Sign) → single s < 8
single_below = Membership.single_below

pub set_of_below : (f : Sign → Bool) → set_of f < 8
set_of_below = Membership.set_of_below

pub unite_below : (a b : ℕ) → unite a b < 8
unite_below = Membership.unite_below

pub union_all_below : (l : List ℕ) → union_all l < 8
union_all_below = Membership.union_all_below

pub added_below : (s : Sign) (set : ℕ) → added s set < 8
unfolding added
added_below s set = Membership.unite_below set (single s)

pub removed_below : (s : Sign) (set : ℕ) → removed s set < 8
unfolding removed
removed_below s set = Membership.set_of_below (λ t. has set t && not (has (single s) t))

-- the members of a set are the signs that it has
pub member_has : (set : ℕ) (s : Sign) → Memᴰ s (members set) → T (has set s)
member_has = Membership.member_has

pub has_member : (set : ℕ) (s : Sign) → T (has set s) → Memᴰ s (members set)
has_member = Membership.has_member

pub any_of_members : (p : Sign → Bool) (set : ℕ) → any_of p (members set) ≡ any_of (λ s. has set s && p s) signs
any_of_members = Membership.any_of_members

-- ---- Operators

-- where an operator on two numbers has a value, the grid's set for their signs has the value's sign
pub sound : (o : Operator) (a b z : ℤ) → apply o a b ≡ Ok z → T (has (grid o (sign_of a) (sign_of b)) (sign_of z))
sound = Arithmetic.sound

pub grid_below : (o : Operator) (l r : Sign) → grid o l r < 8
grid_below = Operate.grid_below

pub operate_below : (o : Operator) (a b : ℕ) → operate o a b < 8
unfolding operate
operate_below o a b = Membership.union_all_below (pairs (grid o) (members a) (members b))

-- an operator on sets has what the entries of its pairs of members have, and nothing else
pub has_operate : (o : Operator) (a b : ℕ) (s : Sign) → has (operate o a b) s ≡ some_pair (λ l r. has (grid o l r) s) a b
has_operate = Operate.has_operate

-- the set table: 320 numbers, each of them the operator on its two sets
pub table_rule : (o : Operator) (a b : ℕ) → operate_by set_table o a b ≡ operate o a b
table_rule = Operate.table_rule

pub table_rows : (k : ℕ) → k < 320 → get_or (get_or set_rows (k / 8) []) (k % 8) 0 ≡ get_or set_table k 0
table_rows = Operate.table_rows

pub table_small : (k : ℕ) → k < 320 → get_or set_table k 0 < 8
table_small = Operate.table_small

pub table_long : length set_table ≡ 320
table_long = Operate.table_long

pub operate_entry : (o : Operator) (a b : ℕ) (l r : Sign) → T (has a l) → T (has b r) → Within (grid o l r) (operate o a b)
operate_entry o a b l r ha hb s h = subst T (sym (has_operate o a b s)) (pair_entry (λ l r. has (grid o l r) s) a b l r ha hb h)

pub operate_monotone : (o : Operator) (a a' b b' : ℕ) → Within a a' → Within b b' → Within (operate o a b) (operate o a' b')
operate_monotone o a a' b b' ha hb s h =
    subst T (sym (has_operate o a' b' s)) (pair_monotone (λ l r. has (grid o l r) s) a a' b b' ha hb (subst T (has_operate o a b s) h))

-- so an operator on sets that have the signs of two numbers has the sign of their value
pub operate_sound : (o : Operator) (x y z : ℤ) (a b : ℕ) → T (has a (sign_of x)) → T (has b (sign_of y)) → apply o x y ≡ Ok z → T (has (operate o a b) (sign_of z))
operate_sound o x y z a b ha hb e = operate_entry o a b (sign_of x) (sign_of y) ha hb (sign_of z) (sound o x y z e)

-- ---- Comparisons

-- every truth value of one set of answers is one of the other
abbrev pub Among : Truths → Truths → Type 0
Among t u = (v : Bool) → T (among v t) → T (among v u)

-- the truth of a comparison of two numbers is among the answers for their signs, and each of these answers does occur
pub compared : (c : Comparison) (a b : ℤ) → T (among (compares c a b) (compare_signs c (sign_of a) (sign_of b)))
compared = Compared.compared

pub occurs : (c : Comparison) (l r : Sign) (v : Bool) → T (among v (compare_signs c l r)) → Compared.Occurs c l r v
occurs = Compared.occurs

pub among_compare_sets : (c : Comparison) (a b : ℕ) (v : Bool) → among v (compare_sets c a b) ≡ some_pair (λ l r. among v (compare_signs c l r)) a b
among_compare_sets = Compared.among_compare_sets

pub compare_sets_entry : (c : Comparison) (a b : ℕ) (l r : Sign) → T (has a l) → T (has b r) → Among (compare_signs c l r) (compare_sets c a b)
compare_sets_entry c a b l r ha hb v h = subst T (sym (among_compare_sets c a b v)) (pair_entry (λ l r. among v (compare_signs c l r)) a b l r ha hb h)

pub compare_sets_monotone : (c : Comparison) (a a' b b' : ℕ) → Within a a' → Within b b' → Among (compare_sets c a b) (compare_sets c a' b')
compare_sets_monotone c a a' b b' ha hb v h =
    subst T (sym (among_compare_sets c a' b' v)) (pair_monotone (λ l r. among v (compare_signs c l r)) a a' b b' ha hb (subst T (among_compare_sets c a b v) h))

pub compare_sets_sound : (c : Comparison) (x y : ℤ) (a b : ℕ) → T (has a (sign_of x)) → T (has b (sign_of y)) → T (among (compares c x y) (compare_sets c a b))
compare_sets_sound c x y a b ha hb = compare_sets_entry c a b (sign_of x) (sign_of y) ha hb (compares c x y) (compared c x y)

-- ---- Truth answers

pub among_certain : T (among true certain)
unfolding among certain truths_of any_of
among_certain = tt

pub among_negated : (v : Bool) (t : Truths) → among v (negated t) ≡ among (not v) t
unfolding among negated
among_negated true t = refl
among_negated false t = refl

pub negated_monotone : (t t' : Truths) → Among t t' → Among (negated t) (negated t')
negated_monotone t t' h v a = subst T (sym (among_negated v t')) (h (not v) (subst T (among_negated v t) a))

pub conjoined_entry : (a b : Truths) (u v : Bool) → T (among u a) → T (among v b) → T (among (u && v) (conjoined a b))
unfolding among
conjoined_entry a b u v x y = subst (λ (t : Truths). T (among (u && v) t)) (Answers.conjoined_by a b) (go u v x y)
  where
    go : (u v : Bool) → T (among u a) → T (among v b) → T (among (u && v) (Answers.conjunction a b))
    go true true x y = yes_and a.holds b.holds x y
    go true false x y = or_right (a.fails && (b.holds || b.fails)) (a.holds && b.fails) (yes_and a.holds b.fails x y)
    go false true x y = or_left (a.fails && (b.holds || b.fails)) (a.holds && b.fails) (yes_and a.fails (b.holds || b.fails) x (or_left b.holds b.fails y))
    go false false x y = or_left (a.fails && (b.holds || b.fails)) (a.holds && b.fails) (yes_and a.fails (b.holds || b.fails) x (or_right b.holds b.fails y))

pub conjoined_monotone : (a a' b b' : Truths) → Among a a' → Among b b' → Among (conjoined a b) (conjoined a' b')
unfolding among
conjoined_monotone a a' b b' ha hb v h = subst (λ (t : Truths). T (among v t)) (Answers.conjoined_by a' b') (go v (subst (λ (t : Truths). T (among v t)) (sym (Answers.conjoined_by a b)) h))
  where
    go : Among (Answers.conjunction a b) (Answers.conjunction a' b')
    go true = and_mono a.holds b.holds a'.holds b'.holds (ha true) (hb true)
    go false =
        or_mono (a.fails && (b.holds || b.fails)) (a.holds && b.fails) (a'.fails && (b'.holds || b'.fails)) (a'.holds && b'.fails)
        (and_mono a.fails _ a'.fails _ (ha false) (or_mono b.holds b.fails b'.holds b'.fails (hb true) (hb false)))
        (and_mono a.holds b.fails a'.holds b'.fails (ha true) (hb false))

-- how a conjunction of three is grouped makes no difference
pub conjoined_assoc : (a b c : Truths) → conjoined (conjoined a b) c ≡ conjoined a (conjoined b c)
conjoined_assoc = Answers.conjoined_assoc

-- nor does true alone on either side
pub certain_conjoined : (a : Truths) → conjoined certain a ≡ a
certain_conjoined = Answers.certain_conjoined

pub conjoined_certain : (a : Truths) → conjoined a certain ≡ a
conjoined_certain = Answers.conjoined_certain

-- the right side counts only where the left is true
pub and_then_entry : (a b : Truths) (u v : Bool) → T (among u a) → (T u → T (among v b)) → T (among (u && v) (and_then a b))
unfolding among and_then
and_then_entry a b true true x y = yes_and a.holds b.holds x (y tt)
and_then_entry a b true false x y = or_right a.fails (a.holds && b.fails) (yes_and a.holds b.fails x (y tt))
and_then_entry a b false v x y = or_left a.fails (a.holds && b.fails) x

pub and_then_monotone : (a a' b b' : Truths) → Among a a' → Among b b' → Among (and_then a b) (and_then a' b')
unfolding among and_then
and_then_monotone a a' b b' ha hb true = and_mono a.holds b.holds a'.holds b'.holds (ha true) (hb true)
and_then_monotone a a' b b' ha hb false =
    or_mono a.fails (a.holds && b.fails) a'.fails (a'.holds && b'.fails) (ha false)
    (and_mono a.holds b.fails a'.holds b'.fails (ha true) (hb false))

-- ---- Rows of numbers

-- a value is fixed by its row alone
pub value_row_lem : (v w : Result ℤ Reason) → value_numbers v ≡ value_numbers w → v ≡ w
value_row_lem = Readback.value_row_lem
