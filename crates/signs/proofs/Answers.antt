-- Truth answers: what is in them, and when two are the same.
use mathlib.Core.Path.{◌≡◌, sym, ap, ◌∙◌}
use mathlib.Core.Bool.{Bool, not, ◌&&◌, ◌||◌, beq}
use Prim.Native.Nat.{ℕ, ◌%◌}
use lib.Bits.{bit_and, and_mod}
use lib.Dec.{T, eqb}
use mir.Facts.{and_yes}
use Rattle.signs.specs.Sign.{has}
use Rattle.signs.specs.Truth.{compare_sets, conjoined, certain}
use Rattle.signs.specs.declared.Comparison.{Comparison}
use Rattle.signs.specs.declared.Comparison.TheVariants.{Equal, Greater, AtLeast}
use Rattle.signs.specs.declared.Sign.TheVariants.{Minus, Plus}
use Rattle.signs.specs.declared.Truths.{Truths}
use Rattle.signs.proofs.Finite.{at_comparison, every_bool, at_bool, every_below, at_sets, beq_eq}
use Rattle.signs.proofs.Membership.{has_remainder, members_remainder}
use Rattle.signs.proofs.Open.{definitions}

-- a test that two sets of answers are the same
abbrev same_truths : Truths → Truths → Bool
same_truths t u = beq t.holds u.holds && beq t.fails u.fails

same_truths_lem : (t u : Truths) → T (same_truths t u) → t ≡ u
same_truths_lem t u h = λ i. record { holds = beq_eq t.holds u.holds both.0 i; fails = beq_eq t.fails u.fails both.1 i }
  where
    both : T (beq t.holds u.holds) × T (beq t.fails u.fails)
    both = and_yes (beq t.holds u.holds) (beq t.fails u.fails) h

-- a test of every set of answers
abbrev every_truths : (Truths → Bool) → Bool
every_truths p = every_bool (λ h. every_bool (λ f. p (record { holds = h; fails = f })))

at_truths : (p : Truths → Bool) → T (every_truths p) → (t : Truths) → T (p t)
at_truths p h t = at_bool (λ f. p (record { holds = t.holds; fails = f })) (at_bool (λ h. every_bool (λ f. p (record { holds = h; fails = f }))) h t.holds) t.fails

-- ---- comparisons of sets

remainders : (c : Comparison) (a b : ℕ) → compare_sets c (a % 8) (b % 8) ≡ compare_sets c a b
unfolding compare_sets
remainders c a b = rw (members_remainder a, members_remainder b)

-- a number of one set's signs can equal one of the other's where they have a sign in common
equals_below : (a b : ℕ) → not (eqb (bit_and (a % 8) (b % 8)) 0) ≡ (compare_sets Equal (a % 8) (b % 8)).holds
unfolding definitions
equals_below a b =
    beq_eq (not (eqb (bit_and (a % 8) (b % 8)) 0)) (compare_sets Equal (a % 8) (b % 8)).holds
    (at_sets (λ a b. beq (not (eqb (bit_and a b) 0)) (compare_sets Equal a b).holds) tt a b)

pub equals_by : (a b : ℕ) → not (eqb (bit_and a b % 8) 0) ≡ (compare_sets Equal a b).holds
equals_by a b =
    ap (λ n. not (eqb n 0)) (and_mod a b 3) ∙ equals_below a b ∙ ap (λ (t : Truths). t.holds) (remainders Equal a b)

-- a positive number can exceed one of any sign, and one of any sign can exceed a negative one
abbrev exceeds : ℕ → ℕ → Bool
exceeds a b = has a Plus && not (eqb b 0) || has b Minus && not (eqb a 0)

exceeds_below : (a b : ℕ) → exceeds (a % 8) (b % 8) ≡ (compare_sets Greater (a % 8) (b % 8)).holds
unfolding definitions
exceeds_below a b =
    beq_eq (exceeds (a % 8) (b % 8)) (compare_sets Greater (a % 8) (b % 8)).holds
    (at_sets (λ a b. beq (exceeds a b) (compare_sets Greater a b).holds) tt a b)

pub exceeds_by : (a b : ℕ) → (has a Plus && not (eqb (b % 8) 0) || has b Minus && not (eqb (a % 8) 0)) ≡ (compare_sets Greater a b).holds
exceeds_by a b =
    rw (sym (has_remainder a Plus), sym (has_remainder b Minus)) (exceeds_below a b ∙ ap (λ (t : Truths). t.holds) (remainders Greater a b))

-- the answers of a comparison, by whether two members can be equal, greater or less
abbrev pub by_order : Comparison → Bool → Bool → Bool → Truths
by_order Equal e g l = record { holds = e; fails = l || g }
by_order Greater e g l = record { holds = g; fails = e || l }
by_order AtLeast e g l = record { holds = e || g; fails = l }

abbrev ordered : Comparison → ℕ → ℕ → Truths
ordered c a b = by_order c (compare_sets Equal a b).holds (compare_sets Greater a b).holds (compare_sets Greater b a).holds

compares_below : (c : Comparison) (a b : ℕ) → ordered c (a % 8) (b % 8) ≡ compare_sets c (a % 8) (b % 8)
unfolding definitions
compares_below c a b =
    same_truths_lem (ordered c (a % 8) (b % 8)) (compare_sets c (a % 8) (b % 8))
    (at_sets (λ a b. same_truths (ordered c a b) (compare_sets c a b))
    (at_comparison (λ c. every_below 8 (λ a. every_below 8 (λ b. same_truths (ordered c a b) (compare_sets c a b)))) tt c) a b)

pub compares_by : (c : Comparison) (a b : ℕ) → ordered c a b ≡ compare_sets c a b
compares_by c a b =
    rw (sym (remainders Equal a b), sym (remainders Greater a b), sym (remainders Greater b a)) (compares_below c a b ∙ remainders c a b)

-- ---- ∧ by its four answers

abbrev of : Bool → Bool → Truths
of h f = record { holds = h; fails = f }

abbrev pub conjunction : Truths → Truths → Truths
conjunction a b = record { holds = a.holds && b.holds; fails = a.fails && (b.holds || b.fails) || a.holds && b.fails }

pub conjoined_by : (a b : Truths) → conjunction a b ≡ conjoined a b
unfolding definitions
conjoined_by a b =
    same_truths_lem (conjunction a b) (conjoined a b)
    (at_bool (λ g. right a.holds a.fails b.holds g)
    (at_bool (λ k. every_bool (λ g. right a.holds a.fails k g))
    (at_bool (λ f. every_bool (λ k. every_bool (λ g. right a.holds f k g)))
    (at_bool (λ h. every_bool (λ f. every_bool (λ k. every_bool (λ g. right h f k g)))) tt a.holds) a.fails) b.holds) b.fails)
  where
    right : Bool → Bool → Bool → Bool → Bool
    right h f k g = same_truths (conjunction (of h f) (of k g)) (conjoined (of h f) (of k g))

-- ---- conjunction of three

grouped : Truths → Truths → Truths → Bool
grouped a b c = same_truths (conjoined (conjoined a b) c) (conjoined a (conjoined b c))

-- how a conjunction of three is grouped makes no difference
pub conjoined_assoc : (a b c : Truths) → conjoined (conjoined a b) c ≡ conjoined a (conjoined b c)
unfolding definitions grouped
conjoined_assoc a b c =
    same_truths_lem _ _
    (at_truths (grouped a b)
    (at_truths (λ b. every_truths (grouped a b))
    (at_truths (λ a. every_truths (λ b. every_truths (grouped a b))) tt a) b) c)

-- true alone on either side makes none
pub certain_conjoined : (a : Truths) → conjoined certain a ≡ a
unfolding definitions
certain_conjoined a = same_truths_lem _ _ (at_truths (λ a. same_truths (conjoined certain a) a) tt a)

pub conjoined_certain : (a : Truths) → conjoined a certain ≡ a
unfolding definitions
conjoined_certain a = same_truths_lem _ _ (at_truths (λ a. same_truths (conjoined a certain) a) tt a)
