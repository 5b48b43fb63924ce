-- An operator on sets: its result has what the grid's entry of some pair of members has. The set table has its results.
use mathlib.Core.Path.{◌≡◌, refl, ◌∙◌}
use mathlib.Core.Bool.{Bool}
use mathlib.Core.List.{[]}
use Prim.Native.Nat.{ℕ, ◌+◌, ◌*◌, ◌/◌, ◌%◌, ◌<◌}
use lib.Dec.{eqb, eqb→eq, ltb, ltb→lt}
use lib.ListN.{length, get_or}
use Rattle.signs.specs.Lists.{pairs}
use Rattle.signs.specs.Grid.{grids, grid_number, sign_number, grid, operate, set_rows, set_table, operate_by}
use Rattle.signs.specs.Sign.{has, members}
use Rattle.signs.specs.declared.Operator.{Operator}
use Rattle.signs.specs.declared.Sign.{Sign}
use Rattle.signs.proofs.Finite.{every_sign, at_sign, at_operator, every_below, at_below, at_sets}
use Rattle.signs.proofs.Lists.{any_of_pairs}
use Rattle.signs.proofs.Membership.{has_union_all, any_of_member_pairs, members_remainder, some_pair}
use Rattle.signs.proofs.Open.{definitions}

pub grid_below : (o : Operator) (l r : Sign) → grid o l r < 8
unfolding grid grids grid_number sign_number
grid_below o l r =
    ltb→lt (grid o l r) 8
    (at_sign (λ r. ltb (grid o l r) 8)
    (at_sign (λ l. every_sign (λ r. ltb (grid o l r) 8))
    (at_operator (λ o. every_sign (λ l. every_sign (λ r. ltb (grid o l r) 8))) tt o) l) r)

pub has_operate : (o : Operator) (a b : ℕ) (s : Sign) → has (operate o a b) s ≡ some_pair (λ l r. has (grid o l r) s) a b
unfolding operate
has_operate o a b s =
    has_union_all (pairs (grid o) (members a) (members b)) s
    ∙ any_of_pairs (λ x. has x s) (grid o) (members a) (members b)
    ∙ any_of_member_pairs (λ l r. has (grid o l r) s) a b

operate_remainder : (o : Operator) (a b : ℕ) → operate o (a % 8) (b % 8) ≡ operate o a b
unfolding operate
operate_remainder o a b = rw (members_remainder a, members_remainder b)

-- the set table's rule at each of its entries: what it has for two sets is the operator on them
pub table_rule : (o : Operator) (a b : ℕ) → operate_by set_table o a b ≡ operate o a b
unfolding definitions
table_rule o a b = eqb→eq _ _ (at_sets (right o) (at_operator (λ o. every_below 8 (λ a. every_below 8 (right o a))) tt o) a b) ∙ operate_remainder o a b
  where
    right : Operator → ℕ → ℕ → Bool
    right o a b = eqb (get_or set_table (64 * grid_number o + 8 * a + b) 0 % 256) (operate o a b)

-- its numbers are those of its rows
pub table_rows : (k : ℕ) → k < 320 → get_or (get_or set_rows (k / 8) []) (k % 8) 0 ≡ get_or set_table k 0
unfolding definitions
table_rows k h = eqb→eq _ _ (at_below 320 (λ k. eqb (get_or (get_or set_rows (k / 8) []) (k % 8) 0) (get_or set_table k 0)) tt k h)

pub table_small : (k : ℕ) → k < 320 → get_or set_table k 0 < 8
unfolding definitions
table_small k h = ltb→lt (get_or set_table k 0) 8 (at_below 320 (λ k. ltb (get_or set_table k 0) 8) tt k h)

pub table_long : length set_table ≡ 320
unfolding definitions
table_long = refl
