-- An index that is never negative in the widest abstract memory, which has every sign for every name, is negative in none.
use Rattle.std.specs.Prelude.{None}
use Rattle.std.proofs.Common.{◌≡◌, ℕ, zero, suc, ◌<◌, ◌≤◌, Bool, true, false, cond, ◌&&◌, ◌||◌, T, List, ◌∷◌, ◌++◌, length, get_or, drop, replicate, sym, refl, ap, ◌∙◌, subst, arith, length-take}
use native.Mathlib.Decide.{dec_lt}
use lib.ListN.{get_or-eq_default}
use Rattle.signs.specs.Lists.{any_of}
use Rattle.signs.specs.Sign.{single, has}
use Rattle.signs.specs.declared.Sign.{Sign}
use Rattle.signs.specs.declared.Sign.TheVariants.{Minus, Zero, Plus}
use Rattle.signs.proofs.Laws.{has_empty, operate_monotone}
use Rattle.signs.proofs.Lists.{or_mono}
use Rattle.signs.proofs.Membership.{Within}
use Rattle.program.specs.Graph.{Graph}
use Rattle.program.specs.Parts.Prepared.{Prepared, edge_count_place}
use Rattle.program.specs.Syntax.{Arith, number, variable, element, operator, Boolean, truth, comparison, conjunction, short_circuit, negation}
use Rattle.program.proofs.Laws.{none_such}
use Rattle.program.specs.Meaning.{Meaning, nothing, assigns, stores, condition}
use Rattle.semantics.specs.Step.{leaves}
use Rattle.analysis.specs.Index.{arith_indexes, boolean_indexes, index_sets, any_negative, may_be_negative}
use Rattle.analysis.specs.Parts.Judging.{picks, first_picked, spot_of, widest, NeverNegative}
use Rattle.analysis.specs.Records.{record_width, record_count, record_at, node_of, memory_of}
use Rattle.analysis.specs.Signs.{may_index, signs_in}
use Rattle.analysis.specs.Verdict.{spot_at, first_spot}
use Rattle.analysis.specs.declared.judging.Query.TheVariants.{NegativeIndex}
use Rattle.analysis.proofs.Negative.{SomeMinus, any_append}
use Rattle.analysis.proofs.Searching.{NowhereTo, nowhere_none, spot_beyond, spot_nowhere}

-- the set of an element, by a wider index's
element_wider : (i j u v : ℕ) → Within i j → Within u v → Within (cond (may_index i) u 0) (cond (may_index j) v 0)
unfolding may_index
element_wider i j u v hi hu s = by (has i Zero || has i Plus) (has j Zero || has j Plus) (or_mono (has i Zero) (has i Plus) (has j Zero) (has j Plus) (hi Zero) (hi Plus))
  where
    by : (a b : Bool) → (T a → T b) → T (has (cond a u 0) s) → T (has (cond b v 0) s)
    by true true f t = hu s t
    by true false f t = absurd (f tt)
    by false b f t = absurd (subst T (has_empty s) t)

both_wider : (xs ys xs' ys' : List ℕ) → (SomeMinus xs → SomeMinus xs') → (SomeMinus ys → SomeMinus ys') → SomeMinus (xs ++ ys) → SomeMinus (xs' ++ ys')
both_wider xs ys xs' ys' f g t =
    subst T (sym (any_append xs' ys')) (or_mono (any_negative xs) (any_negative ys) (any_negative xs') (any_negative ys') f g (subst T (any_append xs ys) t))

first_wider : (a b : ℕ) (xs ys : List ℕ) → Within a b → (SomeMinus xs → SomeMinus ys) → SomeMinus (a ∷ xs) → SomeMinus (b ∷ ys)
unfolding any_negative any_of
first_wider a b xs ys h f = or_mono (has a Minus) (any_negative xs) (has b Minus) (any_negative ys) (h Minus) f

module _ (ρ σ : List ℕ) (wider : (x : ℕ) → Within (get_or ρ x 0) (get_or σ x 0)) where
  signs_wider : (a : Arith) → Within (signs_in ρ a) (signs_in σ a)
  unfolding signs_in
  signs_wider (number k z) s t = t
  signs_wider (variable k x) s t = wider x s t
  signs_wider (element k x i) s t = element_wider (signs_in ρ i) (signs_in σ i) (get_or ρ x 0) (get_or σ x 0) (signs_wider i) (wider x) s t
  signs_wider (operator k o a b) s t = operate_monotone o (signs_in ρ a) (signs_in σ a) (signs_in ρ b) (signs_in σ b) (signs_wider a) (signs_wider b) s t

  arith_wider : (a : Arith) → SomeMinus (arith_indexes ρ a) → SomeMinus (arith_indexes σ a)
  unfolding arith_indexes
  arith_wider (number k z) t = t
  arith_wider (variable k x) t = t
  arith_wider (element k x i) t = first_wider (signs_in ρ i) (signs_in σ i) (arith_indexes ρ i) (arith_indexes σ i) (signs_wider i) (arith_wider i) t
  arith_wider (operator k o a b) t = both_wider (arith_indexes ρ a) (arith_indexes ρ b) (arith_indexes σ a) (arith_indexes σ b) (arith_wider a) (arith_wider b) t

  boolean_wider : (b : Boolean) → SomeMinus (boolean_indexes ρ b) → SomeMinus (boolean_indexes σ b)
  unfolding boolean_indexes
  boolean_wider (truth k) t = t
  boolean_wider (comparison k c a b) t = both_wider (arith_indexes ρ a) (arith_indexes ρ b) (arith_indexes σ a) (arith_indexes σ b) (arith_wider a) (arith_wider b) t
  boolean_wider (conjunction k a b) t = both_wider (boolean_indexes ρ a) (boolean_indexes ρ b) (boolean_indexes σ a) (boolean_indexes σ b) (boolean_wider a) (boolean_wider b) t
  boolean_wider (short_circuit k a b) t = both_wider (boolean_indexes ρ a) (boolean_indexes ρ b) (boolean_indexes σ a) (boolean_indexes σ b) (boolean_wider a) (boolean_wider b) t
  boolean_wider (negation k a) t = boolean_wider a t

  negative_wider : (m : Meaning) → T (may_be_negative ρ m) → T (may_be_negative σ m)
  unfolding may_be_negative index_sets
  negative_wider nothing t = t
  negative_wider (assigns x a) t = arith_wider a t
  negative_wider (stores x i a) t =
      first_wider (signs_in ρ i) (signs_in σ i) (arith_indexes ρ i ++ arith_indexes ρ a) (arith_indexes σ i ++ arith_indexes σ a) (signs_wider i)
      (both_wider (arith_indexes ρ i) (arith_indexes ρ a) (arith_indexes σ i) (arith_indexes σ a) (arith_wider i) (arith_wider a)) t
  negative_wider (condition b) t = boolean_wider b t

-- every sign
every_sign_lem : (s : Sign) → T (has 7 s)
unfolding has single
every_sign_lem Minus = tt
every_sign_lem Zero = tt
every_sign_lem Plus = tt

same_at : (n v x : ℕ) → x < n → get_or (replicate n v) x 0 ≡ v
same_at zero v x h = absurd (omega arith)
same_at (suc n) v zero h = refl
same_at (suc n) v (suc x) h = same_at n v x (omega arith)

never : (ρ : List ℕ) (m : Meaning) → length ρ ≤ 32 → may_be_negative widest m ≡ false → may_be_negative ρ m ≡ false
unfolding widest
never ρ m few e = by (may_be_negative ρ m) refl
  where
    within : (x : ℕ) → Within (get_or ρ x 0) (get_or (replicate 32 7) x 0)
    within x s t =
        elim (dec_lt x 32) [
          | yes h ↦ subst (λ (set : ℕ). T (has set s)) (sym (same_at 32 7 x h)) (every_sign_lem s)
          | no h ↦ absurd (subst T (ap (λ (set : ℕ). has set s) (get_or-eq_default ρ 0 (omega arith)) ∙ has_empty s) t)
        ]

    by : (b : Bool) → may_be_negative ρ m ≡ b → b ≡ false
    by true p = absurd (subst T e (negative_wider ρ (replicate 32 7) within m (subst T (sym p) tt)))
    by false p = refl

-- so where no edge has an index that may be negative there, no record is picked for one
module _ {ns : List ℕ} {g : Graph} {code graph : List ℕ} (p : Prepared ns g code graph) (solution : List ℕ)
    (none : (e : ℕ) → e < get_or graph edge_count_place 0 → NeverNegative code graph e) where
  unpicked : (e : ℕ) → e < length g.edges → (ρ : List ℕ) → length ρ ≤ 32 → picks ns g solution NegativeIndex ρ e ≡ false
  unfolding picks NeverNegative
  unpicked e h ρ small = never ρ _ small (ap (may_be_negative widest) (sym (p.edge e h).action) ∙ none e (omega (arith, p.edges)))

  nowhere_at : (k : ℕ) → spot_of ns g solution NegativeIndex k ≡ None
  unfolding spot_of spot_at first_picked memory_of
  nowhere_at k = ap (spot_at k) (none_such (length g.edges) _ (λ e h. and_false (leaves g e (node_of r)) (unpicked e h (memory_of ns r) short)))
    where
      r : List ℕ
      r = record_at (record_width ns) solution k

      short : length (memory_of ns r) ≤ 32
      short = omega (arith, length-take (length ns) (drop 2 r), p.coded.few)

      and_false : (a : Bool) {b : Bool} → b ≡ false → (a && b) ≡ false
      and_false true p = p
      and_false false p = refl

  nowhere_to : (k : ℕ) → NowhereTo ns g solution NegativeIndex k
  nowhere_to zero = nowhere_none ns g solution NegativeIndex
  nowhere_to (suc k) = spot_beyond ns g solution NegativeIndex k (nowhere_to k) None (sym (nowhere_at k)) refl

  pub none_negative : first_spot ns g solution (picks ns g solution NegativeIndex) ≡ None
  none_negative = sym (spot_nowhere ns g solution NegativeIndex (record_count (record_width ns) solution) refl (nowhere_to _))
