-- Two lists together: joined, their totals give the reply of the one list.
use Rattle.std.specs.Prelude.{Ok}
use Prim.Native.Nat.{ℕ, zero, suc, ◌+◌, ◌≤◌}
use mathlib.Core.Path.{◌≡◌, refl, sym, ap, ◌∙◌}
use mathlib.Core.Bool.{Bool, true, false, ◌&&◌}
use mathlib.Core.List.{List, ◌++◌, map, map-append}
use native.Mathlib.Decide.{dec_le}
use native.Mathlib.Nat.{le_dest}
use native.Mathlib.Omega.{arith}
use lib.IntN.{ℤ, pos}
use lib.ListN.{length, get_or, length-append, get_or-append}
use lib.Seq.{get_or-append-add}
use Rattle.program.proofs.Asking.{then_fit}
use Rattle.program.proofs.Laws.{each_goes_on}
use Rattle.program.specs.Asking.{ask, ask_plain, then_ask, ask_each, is_refused}
use Rattle.program.specs.FirstSuch.{first_of}
use Rattle.figures.specs.Figures.{in_range, InRange, mark_validity, list_validity, join_validity, figures_by, list_figures, join_figures}
use Rattle.figures.specs.Totals.{square, totals, joined, countable}
use Rattle.figures.specs.declared.Figures.{Figures}
use Rattle.figures.proofs.Limits.{fit_in_range, possible_is, list_possible}
use Rattle.figures.proofs.Replies.{list_fit, list_totals}
use Rattle.figures.proofs.Sums.{sum_append}

-- the totals
totals_append : (xs ys : List ℤ) → joined (totals xs) (totals ys) ≡ totals (xs ++ ys)
unfolding joined totals
totals_append xs ys = sym (rw (length-append xs ys, sum_append xs ys, map-append square xs ys, sum_append (map square xs) (map square ys)))

-- the marks
in_range_append : (xs ys : List ℤ) → InRange xs → InRange ys → InRange (xs ++ ys)
in_range_append xs ys hx hy k h = elim (dec_le (suc k) (length xs)) [ yes l ↦ rw (get_or-append xs ys (pos 0) k l) (hx k l) | no l ↦ second (le_dest (omega arith)) ]
  where
    second : (j : ℕ) × (length xs + j ≡ k) → in_range (get_or (xs ++ ys) k (pos 0)) ≡ true
    second (j, e) = rw (← e, get_or-append-add xs ys j (pos 0)) (hy j (omega (arith, length-append xs ys)))

-- the questions: a list of marks in the range is asked about its length alone
in_range_fit : (marks : List ℤ) (k : ℕ) → in_range (get_or marks k (pos 0)) ≡ true → (Ok tt) ≡ mark_validity marks k
unfolding mark_validity ask
in_range_fit marks k e = rw e

pub each_in_range : (marks : List ℤ) → InRange marks → (n : ℕ) → n ≤ length marks → ask_each n (mark_validity marks) ≡ Ok tt
unfolding ask_each first_of is_refused
each_in_range marks within zero h = refl
each_in_range marks within (suc n) h =
    each_goes_on (mark_validity marks) n (Ok tt) false (each_in_range marks within n (omega arith)) (in_range_fit marks n (within n h)) refl refl

list_asked : (marks : List ℤ) → InRange marks → list_validity marks ≡ ask_plain (countable (length marks)) 23
unfolding list_validity
list_asked marks within = ap (then_ask (ask_plain (countable (length marks)) 23)) (each_in_range marks within (length marks) (omega arith)) ∙ then_fit _

counts_append : (xs ys : List ℤ) → (totals xs).count + (totals ys).count ≡ length (xs ++ ys)
unfolding totals
counts_append xs ys = sym (length-append xs ys)

first_of_lem : (a b c : Bool) → b ≡ true → c ≡ true → (a && b && c) ≡ a
first_of_lem true b c eb ec = rw (eb, ec)
first_of_lem false b c eb ec = refl

join_asked : (xs ys : List ℤ) → InRange xs → InRange ys → join_validity (totals xs) (totals ys) ≡ list_validity (xs ++ ys)
unfolding join_validity
join_asked xs ys hx hy =
    ap (λ b. ask_plain b 23)
    (first_of_lem _ _ _ (possible_is _ (list_possible xs hx)) (possible_is _ (list_possible ys hy)) ∙ ap countable (counts_append xs ys))
    ∙ sym (list_asked (xs ++ ys) (in_range_append xs ys hx hy))

-- the replies
pub joint : (xs ys : List ℤ) → InRange xs → InRange ys → join_figures (totals xs) (totals ys) ≡ list_figures (xs ++ ys)
unfolding join_figures list_figures
joint xs ys hx hy =
    ap (λ v. figures_by v (joined (totals xs) (totals ys))) (join_asked xs ys hx hy) ∙ ap (figures_by (list_validity (xs ++ ys))) (totals_append xs ys)

pub joint_replies : (xs ys : List ℤ) (f g : Figures) → list_figures xs ≡ Ok f → list_figures ys ≡ Ok g → join_figures f.totals g.totals ≡ list_figures (xs ++ ys)
joint_replies xs ys f g ef eg =
    rw (list_totals xs f ef, list_totals ys g eg)
    (joint xs ys (fit_in_range xs (list_fit xs f ef)) (fit_in_range ys (list_fit ys g eg)))

-- and the totals that a join gives, joined again
pub joint_again : (xs ys zs : List ℤ) → InRange xs → InRange ys → InRange zs → (f : Figures) → join_figures (totals xs) (totals ys) ≡ Ok f
    → join_figures f.totals (totals zs) ≡ list_figures (xs ++ ys ++ zs)
joint_again xs ys zs hx hy hz f e =
    let both : list_figures (xs ++ ys) ≡ Ok f = sym (joint xs ys hx hy) ∙ e in
    ap (λ t. join_figures t (totals zs)) (list_totals (xs ++ ys) f both) ∙ joint (xs ++ ys) zs (in_range_append xs ys hx hy) hz
