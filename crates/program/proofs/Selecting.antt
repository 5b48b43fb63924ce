-- Edges after others at their node: what holds of the edges before one, by their numbers; a guard after earlier ones and an exit as a test of each guard; and, of a
-- prepared graph, that an edge's earlier guards are the guards of the lower edges out of its node.
use mathlib.Core.Path.{◌≡◌, refl, sym, ◌∙◌, ap, subst}
use mathlib.Core.Bool.{Bool, true, false, false≢true, cond, ◌&&◌, ◌||◌, and-true}
use mathlib.Core.List.{List, [], ◌∷◌, ◌++◌, flat_map, foldl, append-nil}
use Prim.Native.Nat.{ℕ, zero, suc, ◌≤◌, ◌<◌}
use native.Mathlib.Decide.{ℕ_discrete, dec_lt}
use native.Mathlib.Omega.{arith}
use borrow.Author.Tests.{eq-eqb, eqb-true}
use lib.Dec.{T, eqb}
use lib.ListN.{length, take}
use lib.Seq.{take-suc}
use Rattle.signs.specs.Lists.{all_of, any_of}
use Rattle.program.specs.Graph.{Action, perform, test, leave, select, Graph, guards, edge_at, done, selected}
use Rattle.program.specs.Meaning.{Meaning, nothing, assigns, stores, condition, meaning}
use Rattle.program.specs.Parts.Preceding.{leaving, before, is_test, is_select, is_guard, own_guard, own_guards, Follows, plain}
use Rattle.program.specs.Parts.Prepared.{entries_in, source_in, action_in, decoded_meaning, is_guard_node, own_in, guards_in, meaning_after, edge_meaning, Prepared}
use Rattle.program.specs.Parts.Sorted.{boolean_named, meaning_named}
use Rattle.program.specs.Syntax.{Boolean, truth, negation, Command}
use Rattle.program.specs.Tree.{Entries}
use Rattle.program.specs.declared.ActionNode.{ActionNode}
use Rattle.program.specs.declared.ActionNode.TheVariants.{Nothing, Assign, Store, Holds, Exit, Guard}
use Rattle.program.proofs.Guards.{Joins, selected_folded, done_folded}
use Rattle.program.proofs.Precedence.{leaving_append, all_append, own_append}
use Rattle.program.proofs.Preparing.{own_named}
use Rattle.program.proofs.Tests.{two, both}

-- ---- tests of lists

pub all_split : {A : Type 0} (q : A → Bool) (xs ys : List A) → all_of q (xs ++ ys) ≡ true → (all_of q xs ≡ true) × (all_of q ys ≡ true)
unfolding all_of
all_split q [] ys h = (refl, h)
all_split q (x ∷ xs) ys h =
    let t = two (q x) (all_of q (xs ++ ys)) h in
    let r = all_split q xs ys t.1 in
    (both t.0 r.0, r.1)

fold_all : {A : Type 0} (q : A → Bool) (a : Bool) (xs : List A) → foldl (λ t x. t && q x) a xs ≡ (a && all_of q xs)
unfolding all_of
fold_all q true [] = refl
fold_all q false [] = refl
fold_all q true (x ∷ xs) = fold_all q (q x) xs
fold_all q false (x ∷ xs) = fold_all q false xs

fold_any : {A : Type 0} (q : A → Bool) (a : Bool) (xs : List A) → foldl (λ t x. t || q x) a xs ≡ (a || any_of q xs)
unfolding any_of
fold_any q true [] = refl
fold_any q false [] = refl
fold_any q true (x ∷ xs) = fold_any q true xs
fold_any q false (x ∷ xs) = fold_any q (q x) xs

-- ---- a test of conditions that ∧ makes a test of both: of a guard after earlier ones, and of an exit

module _ {h : Boolean → Bool} where
  module _ (j : Joins h ◌&&◌ true) where
    pub selected_all : (earlier : List Boolean) (b : Boolean) → h (selected earlier b) ≡ (all_of (λ g. h (negation 0 g)) earlier && h b)
    selected_all earlier b = selected_folded j earlier b ∙ ap (λ t. t && h b) (fold_all (λ g. h (negation 0 g)) true earlier)

    pub done_all : (c : Command) → h (done c) ≡ all_of (λ g. h (negation 0 g)) (guards c)
    done_all c = done_folded j c ∙ fold_all (λ g. h (negation 0 g)) true (guards c)

  -- and one that ∧ makes a test of either
  module _ (j : Joins h ◌||◌ false) where
    pub selected_any : (earlier : List Boolean) (b : Boolean) → h (selected earlier b) ≡ (any_of (λ g. h (negation 0 g)) earlier || h b)
    selected_any earlier b = selected_folded j earlier b ∙ ap (λ t. t || h b) (fold_any (λ g. h (negation 0 g)) false earlier)

-- ---- the edges before an edge, by their numbers

module _ (g : Graph) (a : ℕ) where
  -- one edge more
  leaving_suc : (k : ℕ) → k < length g.edges → leaving a (take (suc k) g.edges) ≡ leaving a (take k g.edges) ++ cond (eqb (edge_at g k).source a) ((edge_at g k).action ∷ []) []
  unfolding edge_at leaving
  leaving_suc k h = ap (leaving a) (take-suc g.edges k _ h) ∙ leaving_append a (take k g.edges) _

  -- what holds of each holds of all, and the other way round
  pub all_before : (q : Action → Bool) (k : ℕ) → k ≤ length g.edges → ((i : ℕ) → i < k → (edge_at g i).source ≡ a → q (edge_at g i).action ≡ true) → all_of q (leaving a (take k g.edges)) ≡ true
  unfolding leaving all_of
  all_before q zero h each = refl
  all_before q (suc k) h each =
      ap (all_of q) (leaving_suc k h)
      ∙ all_append q (leaving a (take k g.edges)) _ (all_before q k (omega arith) (λ i l e. each i (omega arith) e)) (by (eqb (edge_at g k).source a) refl)
    where
      by : (t : Bool) → eqb (edge_at g k).source a ≡ t → all_of q (cond t ((edge_at g k).action ∷ []) []) ≡ true
      by true e = both (each k (omega arith) (eqb-true _ a e)) refl
      by false e = refl

  pub before_all : (q : Action → Bool) (k : ℕ) → k ≤ length g.edges → all_of q (leaving a (take k g.edges)) ≡ true → (i : ℕ) → i < k → (edge_at g i).source ≡ a → q (edge_at g i).action ≡ true
  unfolding all_of
  before_all q zero h all i l e = absurd (omega arith)
  before_all q (suc k) h all i l e =
      let parts = all_split q (leaving a (take k g.edges)) _ (sym (ap (all_of q) (leaving_suc k h)) ∙ all) in
      elim (ℕ_discrete i k) [
        | yes p ↦ rw p (two (q (edge_at g k).action) true (rw (eq-eqb (edge_at g k).source a (rw (← p) e)) at parts.1)).0
        | no d ↦ before_all q k (omega arith) parts.0 i (omega arith) e
      ]

-- ---- a prepared graph

-- the condition that a meaning is; of any other, true
unfoldable condition_of : Meaning → Boolean
condition_of nothing = truth 0
condition_of (assigns x a) = truth 0
condition_of (stores x i a) = truth 0
condition_of (condition b) = b

module _ (es : Entries) (gs : List Boolean) where
  -- a decoded action that is a guard's, and one that is not
  own_guard_lem : (x : ActionNode) → is_guard_node x ≡ true → own_in es x ≡ condition_of (decoded_meaning es x)
  unfolding is_guard_node own_in condition_of decoded_meaning
  own_guard_lem Nothing t = absurd (false≢true t)
  own_guard_lem (Assign x a) t = absurd (false≢true t)
  own_guard_lem (Store x i a) t = absurd (false≢true t)
  own_guard_lem (Holds n) t = absurd (false≢true t)
  own_guard_lem (Exit n) t = absurd (false≢true t)
  own_guard_lem (Guard n) t = refl

  own_other : (x : ActionNode) → is_guard_node x ≡ false → own_in es x ≡ truth 0
  unfolding is_guard_node own_in
  own_other Nothing t = refl
  own_other (Assign x a) t = refl
  own_other (Store x i a) t = refl
  own_other (Holds n) t = refl
  own_other (Exit n) t = refl
  own_other (Guard n) t = absurd (false≢true (sym t))

  pub after_guard : (x : ActionNode) → is_guard_node x ≡ true → meaning_after es gs x ≡ condition (selected gs (own_in es x))
  unfolding is_guard_node own_in meaning_after
  after_guard Nothing t = absurd (false≢true t)
  after_guard (Assign x a) t = absurd (false≢true t)
  after_guard (Store x i a) t = absurd (false≢true t)
  after_guard (Holds n) t = absurd (false≢true t)
  after_guard (Exit n) t = absurd (false≢true t)
  after_guard (Guard n) t = refl

  pub after_other : (x : ActionNode) → is_guard_node x ≡ false → meaning_after es gs x ≡ decoded_meaning es x
  unfolding is_guard_node decoded_meaning meaning_after
  after_other Nothing t = refl
  after_other (Assign x a) t = refl
  after_other (Store x i a) t = refl
  after_other (Holds n) t = refl
  after_other (Exit n) t = refl
  after_other (Guard n) t = absurd (false≢true (sym t))

-- what holds of the guard of each lower edge out of a node holds of all, and the other way round
module _ (es : Entries) (graph : List ℕ) (node : ℕ) (q : Boolean → Bool) where
  pub all_lower : (k : ℕ) → ((i : ℕ) → i < k → eqb (source_in graph i) node ≡ true → q (own_in es (action_in graph i)) ≡ true) → all_of q (guards_in es graph node k) ≡ true
  unfolding guards_in all_of
  all_lower zero each = refl
  all_lower (suc k) each = all_append q (guards_in es graph node k) _ (all_lower k (λ i l e. each i (omega arith) e)) (by (eqb (source_in graph k) node) refl)
    where
      by : (t : Bool) → eqb (source_in graph k) node ≡ t → all_of q (cond t (own_in es (action_in graph k) ∷ []) []) ≡ true
      by true e = both (each k (omega arith) e) refl
      by false e = refl

  pub lower_all : (k : ℕ) → all_of q (guards_in es graph node k) ≡ true → (i : ℕ) → i < k → eqb (source_in graph i) node ≡ true → q (own_in es (action_in graph i)) ≡ true
  unfolding guards_in all_of
  lower_all zero all i l e = absurd (omega arith)
  lower_all (suc k) all i l e =
      let parts = all_split q (guards_in es graph node k) _ all in
      elim (ℕ_discrete i k) [
        | yes r ↦
            let here : eqb (source_in graph k) node ≡ true = rw (← r) e in
            rw r (two (q (own_in es (action_in graph k))) true (rw here at parts.1)).0
        | no d ↦ lower_all k parts.0 i (omega arith) e
      ]

-- a guard's action of the deterministic graph, without its earlier guards; what precedes it; it is no test
plain_own : (x : Action) → is_select x ≡ true → condition_of (meaning (plain x)) ∷ [] ≡ own_guard x
unfolding is_select plain meaning condition_of own_guard
plain_own (perform c) t = absurd (false≢true t)
plain_own (test b) t = absurd (false≢true t)
plain_own (leave c) t = absurd (false≢true t)
plain_own (select k earlier b) t = refl

pub selects_before : (xs : List Action) (x : Action) → is_select x ≡ true → Follows xs x → all_of is_select xs ≡ true
unfolding is_select
selects_before xs (perform c) t f = absurd (false≢true t)
selects_before xs (test b) t f = absurd (false≢true t)
selects_before xs (leave c) t f = absurd (false≢true t)
selects_before xs (select k earlier b) t f = f.0

pub no_test : (x : Action) → is_select x ≡ true → is_test x ≡ true → ⊥
unfolding is_select is_test
no_test (perform c) t u = false≢true t
no_test (test b) t u = false≢true t
no_test (leave c) t u = false≢true t
no_test (select k earlier b) t u = false≢true u

-- a condition that is tested guard by guard, its own last
pub record Guarded (x : Meaning) (earlier : List Boolean) (own : Boolean) : Type 0 where
  pub tested : Boolean
  pub means : x ≡ condition tested
  pub each : {h : Boolean → Bool} → Joins h ◌&&◌ true → h tested ≡ (all_of (λ g. h (negation 0 g)) earlier && h own)

module _ {ns : List ℕ} {g : Graph} {code graph : List ℕ} (p : Prepared ns g code graph) where
  -- the guards of the lower edges out of an edge's node, as the code has them
  abbrev lower : ℕ → List Boolean
  lower f = guards_in (entries_in code graph) graph (source_in graph f) f

  own_at : (k : ℕ) → k < length g.edges → is_select (edge_at g k).action ≡ true → own_in (entries_in code graph) (action_in graph k) ∷ [] ≡ own_guard (edge_at g k).action
  own_at k h t =
      ap (λ b. b ∷ []) (own_guard_lem (entries_in code graph) [] (action_in graph k) ((p.edge k h).guard ∙ t) ∙ ap condition_of (p.edge k h).action) ∙ plain_own (edge_at g k).action t

  -- the guards of the lower edges out of a node, where all of these are guards' of the deterministic graph
  guards_own : (a k : ℕ) → k ≤ length g.edges → all_of is_select (leaving a (take k g.edges)) ≡ true → guards_in (entries_in code graph) graph a k ≡ own_guards (leaving a (take k g.edges))
  unfolding guards_in own_guards leaving flat_map all_of
  guards_own a zero h all = refl
  guards_own a (suc k) h all =
      let parts = all_split is_select (leaving a (take k g.edges)) _ (sym (ap (all_of is_select) (leaving_suc g a k h)) ∙ all) in
      ap (λ gs. gs ++ cond (eqb (source_in graph k) a) (own_in (entries_in code graph) (action_in graph k) ∷ []) []) (guards_own a k (omega arith) parts.0)
      ∙ ap (λ gs. own_guards (leaving a (take k g.edges)) ++ gs)
      (ap (λ (n : ℕ). cond (eqb n a) (own_in (entries_in code graph) (action_in graph k) ∷ []) []) (p.edge k h).source ∙ by (eqb (edge_at g k).source a) parts.1)
      ∙ sym (ap own_guards (leaving_suc g a k h) ∙ own_append (leaving a (take k g.edges)) _)
    where
      by : (t : Bool) → all_of is_select (cond t ((edge_at g k).action ∷ []) []) ≡ true → cond t (own_in (entries_in code graph) (action_in graph k) ∷ []) [] ≡ own_guards (cond t ((edge_at g k).action ∷ []) [])
      by true q = own_at k h (two (is_select (edge_at g k).action) true q).0 ∙ sym (append-nil (own_guard (edge_at g k).action))
      by false q = refl

  -- so of an edge before which there are only these
  guards_before : (f : ℕ) → f < length g.edges → all_of is_select (before g f) ≡ true → guards_in (entries_in code graph) graph (source_in graph f) f ≡ own_guards (before g f)
  unfolding before
  guards_before f h all = ap (λ (n : ℕ). guards_in (entries_in code graph) graph n f) (p.edge f h).source ∙ guards_own (edge_at g f).source f (omega arith) all

  -- what an edge means, out of the numbers: its earlier guards are those of the lower edges out of its node
  pub edge_meaning_lem : (f : ℕ) → f < length g.edges → edge_meaning (entries_in code graph) graph f ≡ meaning (edge_at g f).action
  unfolding edge_meaning is_select plain meaning condition_of
  edge_meaning_lem f h = by (edge_at g f).action (p.edge f h).guard (p.edge f h).action (p.edge f h).follows
    where
      by : (x : Action) → is_guard_node (action_in graph f) ≡ is_select x → decoded_meaning (entries_in code graph) (action_in graph f) ≡ meaning (plain x) → Follows (before g f) x
          → meaning_after (entries_in code graph) (lower f) (action_in graph f) ≡ meaning x
      by (perform c) t d k = after_other (entries_in code graph) (lower f) (action_in graph f) t ∙ d
      by (test b) t d k = after_other (entries_in code graph) (lower f) (action_in graph f) t ∙ d
      by (leave c) t d k = after_other (entries_in code graph) (lower f) (action_in graph f) t ∙ d
      by (select n earlier b) t d k =
          after_guard (entries_in code graph) (lower f) (action_in graph f) t
          ∙ ap (λ (x : List Boolean). condition (selected x (own_in (entries_in code graph) (action_in graph f)))) (guards_before f h k.0 ∙ k.1)
          ∙ ap (λ (x : Boolean). condition (selected earlier x)) (own_guard_lem (entries_in code graph) (lower f) (action_in graph f) t ∙ ap condition_of d)

  -- an edge's own condition has names that are there
  pub own_there : (f : ℕ) → f < length g.edges → T (boolean_named ns (own_in (entries_in code graph) (action_in graph f)))
  unfolding own_in decoded_meaning meaning_named boolean_named
  own_there f h = by (action_in graph f) (subst (λ (x : Meaning). T (meaning_named ns x)) (sym (p.edge f h).action) (own_named ns (edge_at g f).action (p.edge f h).named))
    where
      by : (x : ActionNode) → T (meaning_named ns (decoded_meaning (entries_in code graph) x)) → T (boolean_named ns (own_in (entries_in code graph) x))
      by Nothing t = tt
      by (Assign x a) t = tt
      by (Store x i a) t = tt
      by (Holds n) t = tt
      by (Exit n) t = tt
      by (Guard n) t = t

  -- ---- a node with a guard of the deterministic graph: only such guards come before one
  pub guard_lower : (e k : ℕ) → e < length g.edges → k < e → (edge_at g k).source ≡ (edge_at g e).source → is_guard_node (action_in graph e) ≡ true → is_guard_node (action_in graph k) ≡ true
  unfolding before
  guard_lower e k h l same t =
      (p.edge k (omega arith)).guard
      ∙ before_all g (edge_at g e).source is_select e (omega arith) (selects_before (before g e) (edge_at g e).action (sym (p.edge e h).guard ∙ t) (p.edge e h).follows) k l same

  -- such a guard's edge, guard by guard
  pub guard_guarded : (f : ℕ) → f < length g.edges → is_guard_node (action_in graph f) ≡ true
      → Guarded (meaning (edge_at g f).action) (lower f) (own_in (entries_in code graph) (action_in graph f))
  unfolding edge_meaning
  guard_guarded f h t =
      record {
        tested = selected (lower f) (own_in (entries_in code graph) (action_in graph f));
        means = sym (edge_meaning_lem f h) ∙ after_guard (entries_in code graph) (lower f) (action_in graph f) t;
        each = λ j. selected_all j (lower f) (own_in (entries_in code graph) (action_in graph f));
      }

  -- and each edge after it at its node: a guard's or an exit, whose own condition is true
  module _ (e f : ℕ) (l : e < f) (h : f < length g.edges) (same : (edge_at g e).source ≡ (edge_at g f).source) (t : is_guard_node (action_in graph e) ≡ true) where
    selected_here : is_select (edge_at g e).action ≡ true
    selected_here = sym (p.edge e (omega arith)).guard ∙ t

    -- all edges before f at the node are guards' of the deterministic graph, where they are guards'
    all_selects : all_of is_guard (before g f) ≡ true → all_of is_select (before g f) ≡ true
    unfolding before is_guard is_test is_select
    all_selects all = all_before g (edge_at g f).source is_select f (omega arith) one
      where
        one : (i : ℕ) → i < f → (edge_at g i).source ≡ (edge_at g f).source → is_select (edge_at g i).action ≡ true
        one i m q =
            elim (dec_lt e i) [
              | yes u ↦
                  by (before g i) (edge_at g i).action (before_all g (edge_at g f).source is_guard f (omega arith) all i m q)
                  (λ k. before_all g (edge_at g i).source is_test i (omega arith) k e u (same ∙ sym q)) (p.edge i (omega arith)).follows
              | no u ↦
                  elim (ℕ_discrete i e) [
                    | yes r ↦ rw r selected_here
                    | no r ↦ before_all g (edge_at g e).source is_select e (omega arith) (selects_before (before g e) (edge_at g e).action selected_here (p.edge e (omega arith)).follows) i (omega arith) (q ∙ sym same)
                  ]
            ]
          where
            by : (xs : List Action) (x : Action) → is_guard x ≡ true → (all_of is_test xs ≡ true → is_test (edge_at g e).action ≡ true) → Follows xs x → is_select x ≡ true
            by xs (perform c) v tests k = absurd (false≢true v)
            by xs (test b) v tests k = absurd (no_test (edge_at g e).action selected_here (tests k))
            by xs (leave c) v tests k = absurd (false≢true v)
            by xs (select n earlier b) v tests k = refl

    pub later_guarded : Guarded (meaning (edge_at g f).action) (lower f) (own_in (entries_in code graph) (action_in graph f))
    unfolding before all_of is_select meaning
    later_guarded = by (edge_at g f).action (p.edge f h).guard (p.edge f h).follows refl
      where
        by : (x : Action) → is_guard_node (action_in graph f) ≡ is_select x → Follows (before g f) x → (edge_at g f).action ≡ x → Guarded (meaning (edge_at g f).action) (lower f) (own_in (entries_in code graph) (action_in graph f))
        by (perform c) u k q = absurd (false≢true (before_all g (edge_at g f).source (λ x. false) f (omega arith) (ap (all_of (λ x. false)) k) e l same))
        by (test b) u k q = absurd (no_test (edge_at g e).action selected_here (before_all g (edge_at g f).source is_test f (omega arith) k e l same))
        by (leave c) u k q =
            record {
              tested = done c;
              means = ap meaning q;
              each =
                  λ {h = v} j.
                  done_all j c
                  ∙ ap (all_of (λ b. v (negation 0 b))) (sym (guards_before f h (all_selects k.0) ∙ k.1))
                  ∙ sym (ap (λ b. all_of (λ g. v (negation 0 g)) (lower f) && v b) (own_other (entries_in code graph) (lower f) (action_in graph f) u) ∙ ap (λ b. all_of (λ g. v (negation 0 g)) (lower f) && b) (j.yes 0) ∙ and-true (all_of (λ g. v (negation 0 g)) (lower f)));
            }
        by (select n earlier b) u k q = guard_guarded f h u
