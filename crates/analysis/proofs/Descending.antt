-- The solver goes along the edges out of a node and down its own list as the definition does.
use Rattle.std.proofs.Common.{◌≡◌, ℕ, zero, suc, ◌+◌, ◌-◌, ◌*◌, ◌/◌, ◌%◌, ◌<◌, ◌≤◌, min, Bool, true, false, cond, eqb, ltb, List, [], ◌∷◌, ◌++◌, map, length, get_or, set, sym, refl, ap, ◌∙◌, append-nil, add-zero, arith, le-ltb, lt-ltb, eq-eqb, ne_eqb}
use mathlib.Core.List.{foldl, foldl-append}
use native.Mathlib.Decide.{dec_lt}
use Rattle.signs.specs.Lists.{tabulate, passing, indices}
use Rattle.signs.specs.declared.Truths.{Truths}
use Rattle.program.specs.File.{word_at}
use Rattle.program.specs.Graph.{Graph, edge_at}
use Rattle.program.specs.Meaning.{meaning}
use Rattle.program.specs.declared.ActionNode.{ActionNode}
use Rattle.program.specs.Parts.Prepared.{Prepared, Linked, Following, entries_in, decoded_meaning, is_guard_node, action_in, source_in, target_in, first_in, next_in, edge_count_place}
use Rattle.program.proofs.Lists.{get_or_tabulate}
use Rattle.program.proofs.Laws.{next_is_beyond, first_is_followed, next_is_followed}
use Rattle.semantics.specs.Parts.Selecting.{Opens}
use Rattle.semantics.specs.Step.{leaves}
use Rattle.semantics.proofs.Opened.{opens}
use Rattle.analysis.specs.Parts.Changing.{sets_of, ResultsIn}
use Rattle.analysis.specs.Parts.Judging.{ReadInto}
use Rattle.analysis.specs.Records.{record_at, node_of, memory_of}
use Rattle.analysis.specs.Results.{results}
use Rattle.analysis.specs.Signs.{truths_in}
use Rattle.analysis.specs.Solver.{Found, offer, offer_results, offer_successors, descend}
use Rattle.analysis.specs.Parts.Solving.{found_in, along}
use Rattle.analysis.specs.declared.solver.Progress.{Progress}
use Rattle.analysis.proofs.Alike.{truths_alike, as_it_is}
use Rattle.analysis.proofs.Growing.{offer_full}
use Rattle.analysis.proofs.Laid.{node_reads}
use Rattle.analysis.proofs.Tested.{own_at, plain_meaning, results_own, results_none}

-- ---- Along an edge

-- the results of an edge, as the code reads it and offers them
pub edge_offered : {ns : List ℕ} {g : Graph} {code graph : List ℕ} (x : Prepared ns g code graph) (e : ℕ) → e < length g.edges → {a : ActionNode} → a ≡ action_in graph e → is_guard_node a ≡ false
    → (ρ rho : List ℕ) → ReadInto ρ rho (length ns) → (r : ℕ) → ResultsIn rho (decoded_meaning (entries_in code graph) a) r → (room : ℕ) (f : Found) {f' : Found}
    → f' ≡ foldl (offer ns room (target_in graph e)) f (map (set ρ (r % 64)) (sets_of (r / 64))) → f' ≡ offer_results ns g room ρ f e
unfolding offer_results
edge_offered x e h told plainly ρ rho y r k room f p =
    rw (← (x.edge e h).target, ← plain_meaning x e h told plainly, k.gives ρ (omega (arith, y.sized, x.coded.few)) y.alike) p

-- the abstract memory as it is, where a guard may hold
pub own_offered : {ns : List ℕ} {g : Graph} {code graph : List ℕ} (x : Prepared ns g code graph) (e : ℕ) → e < length g.edges → {ρ rho : List ℕ} → ReadInto ρ rho (length ns)
    → (room : ℕ) (b : Bool) {r node : ℕ} → r ≡ cond b 96 32 → node ≡ target_in graph e → (f : Found) {f' : Found}
    → f' ≡ foldl (offer ns room node) f (map (set ρ (r % 64)) (sets_of (r / 64))) → f' ≡ foldl (offer ns room (edge_at g e).target) f (cond b (ρ ∷ []) [])
own_offered {ns = ns} x e h {ρ} y room b {r} {node} k t f p =
    p
    ∙ ap (λ (n : ℕ). foldl (offer ns room node) f (map (set ρ (n % 64)) (sets_of (n / 64)))) k
    ∙ ap (foldl (offer ns room node) f) (sym (as_it_is b ρ (omega (arith, y.sized, x.coded.few))))
    ∙ ap (λ (n : ℕ). foldl (offer ns room n) f (cond b (ρ ∷ []) [])) (t ∙ (x.edge e h).target)

-- ---- Along the edges out of a node

passing_more : (p : ℕ → Bool) (xs : List ℕ) (x : ℕ) → passing p (xs ++ (x ∷ [])) ≡ passing p xs ++ cond (p x) (x ∷ []) []
unfolding passing
passing_more p [] x = refl
passing_more p (y ∷ ys) x = by (passing_more p ys x) (p y)
  where
    by : passing p (ys ++ (x ∷ [])) ≡ passing p ys ++ cond (p x) (x ∷ []) [] → (b : Bool)
        → cond b (y ∷ passing p (ys ++ (x ∷ []))) (passing p (ys ++ (x ∷ []))) ≡ cond b (y ∷ passing p ys) (passing p ys) ++ cond (p x) (x ∷ []) []
    by below true = ap (λ (l : List ℕ). y ∷ l) below
    by below false = below

module _ (f : Found → ℕ → Found) (g : Graph) (node : ℕ) (z : Found) where
  -- one that leaves the node is taken, others are passed over
  along_taken : (n : ℕ) → leaves g n node ≡ true → along f g node (suc n) z ≡ f (along f g node n z) n
  unfolding along indices tabulate
  along_taken n e = rw (passing_more (λ e. leaves g e node) (indices n) n, e) (foldl-append f z (passing (λ e. leaves g e node) (indices n)) (n ∷ []))

  along_other : (n : ℕ) → leaves g n node ≡ false → along f g node (suc n) z ≡ along f g node n z
  unfolding along indices tabulate
  along_other n e = rw (passing_more (λ e. leaves g e node) (indices n) n, e, append-nil (passing (λ e. leaves g e node) (indices n)))

  along_passed : (n k : ℕ) → ((i : ℕ) → n ≤ i → i < n + k → leaves g i node ≡ false) → along f g node (n + k) z ≡ along f g node n z
  along_passed n zero h = rw add-zero
  along_passed n (suc k) h =
      let step : n + suc k ≡ suc (n + k) = omega arith in
      ap (λ (m : ℕ). along f g node m z) step ∙ along_other (n + k) (h (n + k) (omega arith) (omega arith)) ∙ along_passed n k (λ i a b. h i a (omega arith))

  along_none : along f g node 0 z ≡ z
  unfolding along indices tabulate passing
  along_none = refl

  -- from n to m, where none of them leaves the node
  along_between : (n m : ℕ) → n ≤ m → ((i : ℕ) → n ≤ i → i < m → leaves g i node ≡ false) → along f g node m z ≡ along f g node n z
  along_between n m l h =
      let whole : n + (m - n) ≡ m = omega arith in
      ap (λ (k : ℕ). along f g node k z) (sym whole) ∙ along_passed n (m - n) (λ i a b. h i a (omega arith))

module _ {graph : List ℕ} (w : Linked graph) (node : ℕ) where
  abbrev count : ℕ
  count = get_or graph edge_count_place 0

  -- from a node past the last of 129 there is no edge
  first_none : 129 ≤ node → first_in graph node ≡ 255
  unfolding first_in
  first_none h = rw (le-ltb node 129 h)

  -- following a link comes to an edge out of the node
  pub first_leaves : first_in graph node < count → source_in graph (first_in graph node) ≡ node
  first_leaves l =
      elim (dec_lt node 129) [
        | yes h ↦ (first_is_followed w node (λ k. ⊥) h).here l
        | no h ↦ absurd (omega (arith, first_none (omega arith), w.few))
      ]

  abbrev Before : ℕ → ℕ → Type 0
  Before e k = k < suc e

  next_passes : (e : ℕ) → e < count → source_in graph e ≡ node → Following graph node (Before e) (next_in graph e)
  next_passes e h here = next_is_followed w node (Before e) e h (record { here = λ l. here; before = λ k l a b. omega arith }) (omega arith)

  pub next_leaves : (e : ℕ) → e < count → source_in graph e ≡ node → next_in graph e < count → source_in graph (next_in graph e) ≡ node
  next_leaves e h here l = (next_passes e h here).here l

  module _ {ns code : List ℕ} {g : Graph} (x : Prepared ns g code graph) (f : Found → ℕ → Found) (z : Found) where
    leaves_by : (k : ℕ) → k < count → leaves g k node ≡ eqb (source_in graph k) node
    unfolding leaves
    leaves_by k h =
        let l : k < length g.edges = omega (arith, x.edges) in
        rw (lt-ltb k (length g.edges) l, (x.edge k l).source)

    -- an edge before which something holds that does not hold of it is passed over
    passed_over : (P : ℕ → Type 0) (e : ℕ) → Following graph node P e → (k : ℕ) → k < e → k < count → (P k → ⊥) → leaves g k node ≡ false
    passed_over P e at k h l d = by (eqb (source_in graph k) node) refl
      where
        by : (b : Bool) → eqb (source_in graph k) node ≡ b → leaves g k node ≡ false
        by true q = absurd (d (at.before k h l q))
        by false q = leaves_by k l ∙ q

    -- none leaves a node past the last
    none_leaves : 129 ≤ node → (k : ℕ) → k < count → leaves g k node ≡ false
    none_leaves h k l =
        let d = x.edge k (omega (arith, x.edges)) in
        leaves_by k l ∙ ne_eqb (source_in graph k) node (λ q. omega (arith, d.source, d.from, x.few_nodes))

    pub first_along : z ≡ along f g node (min (first_in graph node) count) z
    first_along =
        sym
        (along_between f g node z 0 (min (first_in graph node) count) (omega arith)
        (λ i a b. elim (dec_lt node 129) [
          | yes h ↦ passed_over (λ k. ⊥) _ (first_is_followed w node (λ k. ⊥) h) i (omega arith) (omega arith) (λ v. v)
          | no h ↦ none_leaves (omega arith) i (omega arith)
        ])
        ∙ along_none f g node z)

    pub next_along : (e : ℕ) → e < count → source_in graph e ≡ node → {a b : Found} → a ≡ along f g node (min e count) z → b ≡ f a e
        → b ≡ along f g node (min (next_in graph e) count) z
    next_along e h here {a} {b} p q =
        let here-now : min e count ≡ e = omega arith in
        q ∙ ap (λ (v : Found). f v e) (p ∙ ap (λ (n : ℕ). along f g node n z) here-now)
        ∙ sym (along_taken f g node z e (leaves_by e h ∙ eq-eqb (source_in graph e) node here))
        ∙ sym
        (along_between f g node z (suc e) (min (next_in graph e) count) (omega (arith, next_is_beyond w e h))
        (λ i a b. passed_over (Before e) _ (next_passes e h here) i (omega arith) (omega arith) (λ v. omega arith)))

    -- all edges
    pub all_along : (e : ℕ) → count ≤ e → {a : Found} → a ≡ along f g node (min e count) z → a ≡ along f g node (length g.edges) z
    all_along e h p =
        let all : min e count ≡ length g.edges = omega (arith, x.edges) in
        p ∙ ap (λ (n : ℕ). along f g node n z) all

-- ---- Along the edges out of a node whose lowest is a guard's of the deterministic graph

module _ (f : Found → ℕ → Found) (g : Graph) (node : ℕ) (z : Found) where
  -- from n to m, where none of them that leaves the node changes what is found
  along_still : (n k : ℕ) → ((i : ℕ) → n ≤ i → i < n + k → leaves g i node ≡ true → (v : Found) → f v i ≡ v) → along f g node (n + k) z ≡ along f g node n z
  along_still n zero h = rw add-zero
  along_still n (suc k) h =
      let step : n + suc k ≡ suc (n + k) = omega arith in
      ap (λ (m : ℕ). along f g node m z) step ∙ by (leaves g (n + k) node) refl ∙ along_still n k (λ i a b. h i a (omega arith))
    where
      by : (b : Bool) → leaves g (n + k) node ≡ b → along f g node (suc (n + k)) z ≡ along f g node (n + k) z
      by true e = along_taken f g node z (n + k) e ∙ h (n + k) (omega arith) (omega arith) e _
      by false e = along_other f g node z (n + k) e

-- the own guard of an edge may fail
abbrev pub MayFail : List ℕ → List ℕ → List ℕ → ℕ → Type 0
MayFail code graph rho k = (truths_in rho (own_at code graph k)).fails ≡ true

module _ {ns : List ℕ} {g : Graph} {code graph ρ rho : List ℕ} (x : Prepared ns g code graph) (y : ReadInto ρ rho (length ns)) (w : Linked graph)
    {node first : ℕ} (opened : Opens graph node first) (room : ℕ) (z : Found) where
  abbrev Offer : Found → ℕ → Found
  Offer = offer_results ns g room ρ

  alike : (k : ℕ) → truths_in ρ (own_at code graph k) ≡ truths_in rho (own_at code graph k)
  alike k = truths_alike ρ rho y.alike (own_at code graph k)

  leaves_source : (k : ℕ) → k < length g.edges → leaves g k node ≡ eqb (source_in graph k) node
  leaves_source k h = leaves_by w node x Offer z k (omega (arith, x.edges))

  -- before the lowest there is none
  pub guarded_start : z ≡ along Offer g node (min first (get_or graph edge_count_place 0)) z
  guarded_start =
      sym
      (along_between Offer g node z 0 (min first (get_or graph edge_count_place 0)) (omega arith) (λ i a b. by i (omega arith) (omega (arith, x.edges)) (eqb (source_in graph i) node) refl)
      ∙ along_none Offer g node z)
    where
      by : (i : ℕ) → i < first → i < length g.edges → (b : Bool) → eqb (source_in graph i) node ≡ b → leaves g i node ≡ false
      by i l h true s = absurd (opened.none i l s)
      by i l h false s = leaves_source i h ∙ s

  module _ (e : ℕ) (at : Following graph node (MayFail code graph rho) e) (h : e < get_or graph edge_count_place 0) where
    leaves_here : eqb (source_in graph e) node ≡ true
    leaves_here = eq-eqb (source_in graph e) node (at.here h)

    -- along an edge, by its own guard
    offered_own : (v : Found) → foldl (offer ns room (edge_at g e).target) v (cond (truths_in rho (own_at code graph e)).holds (ρ ∷ []) []) ≡ Offer v e
    unfolding offer_results
    offered_own v =
        ap (foldl (offer ns room (edge_at g e).target) v)
        (sym
        (results_own x ρ opened e (omega (arith, x.edges)) leaves_here (λ i m t. ap (λ (v : Truths). v.fails) (alike i) ∙ at.before i m (omega arith) t)
        ∙ ap (λ (v : Truths). cond v.holds (ρ ∷ []) []) (alike e)))

    pub guarded_next : {a b : Found} → a ≡ along Offer g node (min e (get_or graph edge_count_place 0)) z
        → b ≡ foldl (offer ns room (edge_at g e).target) a (cond (truths_in rho (own_at code graph e)).holds (ρ ∷ []) [])
        → b ≡ along Offer g node (min (next_in graph e) (get_or graph edge_count_place 0)) z
    guarded_next {a} p q = next_along w node x Offer z e h (at.here h) p (q ∙ offered_own a)

    -- where its own guard may not fail, nothing follows along the edges after it
    pub guarded_stop : {a b : Found} → a ≡ along Offer g node (min e (get_or graph edge_count_place 0)) z
        → b ≡ foldl (offer ns room (edge_at g e).target) a (cond (truths_in rho (own_at code graph e)).holds (ρ ∷ []) []) → (truths_in rho (own_at code graph e)).fails ≡ false
        → b ≡ along Offer g node (length g.edges) z
    unfolding offer_results
    guarded_stop {a} p q u =
        let here : min e (get_or graph edge_count_place 0) ≡ e = omega arith in
        let all : suc e + (length g.edges - suc e) ≡ length g.edges = omega (arith, x.edges) in
        q
        ∙ offered_own a
        ∙ ap (λ (v : Found). Offer v e) (p ∙ ap (λ (n : ℕ). along Offer g node n z) here)
        ∙ sym (along_taken Offer g node z e (leaves_source e (omega (arith, x.edges)) ∙ leaves_here))
        ∙ sym (along_still Offer g node z (suc e) (length g.edges - suc e) (λ i l m s. still i (omega arith) (omega arith) s))
        ∙ ap (λ (n : ℕ). along Offer g node n z) all
      where
        still : (i : ℕ) → e < i → i < length g.edges → leaves g i node ≡ true → (v : Found) → Offer v i ≡ v
        still i l m s v =
            ap (foldl (offer ns room (edge_at g i).target) v)
            (results_none x ρ opened i m (sym (leaves_source i m) ∙ s) e l leaves_here (ap (λ (v : Truths). v.fails) (alike e) ∙ u))

-- so a list handed over at a guard's edge has all that follows: before that edge there is none
pub guarded_all : {ns : List ℕ} {g : Graph} {code graph ρ rho : List ℕ} (x : Prepared ns g code graph) (y : ReadInto ρ rho (length ns)) (w : Linked graph) {node : ℕ} (room : ℕ) (z : Found)
    (e : ℕ) → e < get_or graph edge_count_place 0 → source_in graph e ≡ node → (node < 129 → Following graph node (λ k. is_guard_node (action_in graph k) ≡ false) e)
    → is_guard_node (action_in graph e) ≡ true → {a b : Found} → a ≡ along (offer_results ns g room ρ) g node (min e (get_or graph edge_count_place 0)) z
    → (Opens graph node e → b ≡ along (offer_results ns g room ρ) g node (length g.edges) a) → b ≡ along (offer_results ns g room ρ) g node (length g.edges) z
guarded_all {ns} {g} {ρ = ρ} x y w {node} room z e h here at t p found =
    let d = x.edge e (omega (arith, x.edges)) in
    let o = opens x (at (omega (arith, here, d.source, d.from, x.few_nodes))) h t in
    found o ∙ ap (along (offer_results ns g room ρ) g node (length g.edges)) (p ∙ sym (guarded_start x y w o room z))

-- ---- Down the list

-- what follows record k
pub record_offered : (ns : List ℕ) (names : ℕ) (g : Graph) (buffer : List ℕ) (p : Progress) (k : ℕ) → k < p.count → (room : ℕ) {node : ℕ} → node ≡ word_at buffer ((2 + names) * k)
    → {f' : Found} → f' ≡ along (offer_results ns g room (memory_of ns (record_at (2 + names) buffer k))) g node (length g.edges) (found_in (2 + names) buffer p)
    → f' ≡ offer_successors ns g room (get_or (found_in (2 + names) buffer p).records k []) (found_in (2 + names) buffer p)
unfolding offer_successors along found_in
record_offered ns names g buffer p k h room r q =
    rw (get_or_tabulate p.count (record_at (2 + names) buffer) k [] h, node_reads buffer k names, ← r) q

module _ (ns : List ℕ) (g : Graph) (room : ℕ) where
  -- a full list stays as it is
  fold_full : {A : Type 0} (f : Found → A → Found) (z : Found) → ((x : A) → f z x ≡ z) → (xs : List A) → foldl f z xs ≡ z
  fold_full f z h [] = refl
  fold_full f z h (x ∷ xs) = ap (λ (v : Found). foldl f v xs) (h x) ∙ fold_full f z h xs

  results_full : (ρ : List ℕ) (f : Found) → f.full ≡ true → (n : ℕ) → offer_results ns g room ρ f n ≡ f
  unfolding offer_results
  results_full ρ f e n = fold_full (offer ns room (edge_at g n).target) f (λ σ. offer_full ns room (edge_at g n).target f σ e) (results ρ (meaning (edge_at g n).action))

  successors_full : (r : List ℕ) (f : Found) → f.full ≡ true → offer_successors ns g room r f ≡ f
  unfolding offer_successors
  successors_full r f e =
      fold_full (offer_results ns g room (memory_of ns r)) f (results_full (memory_of ns r) f e) (passing (λ n. leaves g n (node_of r)) (indices (length g.edges)))

  descend_full : (turns k : ℕ) (f : Found) → f.full ≡ true → descend turns ns g room k f ≡ f
  unfolding descend
  descend_full zero k f e = refl
  descend_full (suc turns) k f e = by (ap (descend turns ns g room (k + 1)) (successors_full (get_or f.records k []) f e) ∙ descend_full turns (k + 1) f e) (ltb k (length f.records))
    where
      by : {rest : Found} → rest ≡ f → (b : Bool) → cond b rest f ≡ f
      by p true = p
      by p false = refl

  descend_end : (turns k : ℕ) (f : Found) → length f.records ≤ k → descend turns ns g room k f ≡ f
  unfolding descend
  descend_end zero k f h = refl
  descend_end (suc turns) k f h = rw (le-ltb k (length f.records) h)

  descend_goes : (turns k : ℕ) (f : Found) → k < length f.records → descend (suc turns) ns g room k f ≡ descend turns ns g room (k + 1) (offer_successors ns g room (get_or f.records k []) f)
  unfolding descend
  descend_goes turns k f h = rw (lt-ltb k (length f.records) h)

  -- as the code goes: from the first record, one turn more, and no more turns
  pub descended_start : (f : Found) → descend room ns g room 0 f ≡ descend (room - 0) ns g room 0 f
  descended_start f = ap (λ (t : ℕ). descend t ns g room 0 f) (omega arith)

  pub descended_more : (k : ℕ) (f : Found) {f' d : Found} → k < length f.records → length f.records ≤ room → f' ≡ offer_successors ns g room (get_or f.records k []) f
      → d ≡ descend (room - k) ns g room k f → d ≡ descend (room - (k + 1)) ns g room (k + 1) f'
  descended_more k f h l p q =
      let step : room - k ≡ suc (room - (k + 1)) = omega arith in
      q ∙ ap (λ (t : ℕ). descend t ns g room k f) step ∙ descend_goes (room - (k + 1)) k f h ∙ ap (descend (room - (k + 1)) ns g room (k + 1)) (sym p)

  pub descended_end : (k : ℕ) (f : Found) {d : Found} → length f.records ≤ k → d ≡ descend (room - k) ns g room k f → f ≡ d
  descended_end k f h q = sym (q ∙ descend_end (room - k) k f h)

  pub descended_full : (k : ℕ) (f : Found) {d : Found} → f.full ≡ true → d ≡ descend (room - k) ns g room k f → f ≡ d
  descended_full k f h q = sym (q ∙ descend_full (room - k) k f h)
