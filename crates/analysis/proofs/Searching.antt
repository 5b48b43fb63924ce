-- A solution is searched through its index: what is found of one abstract memory, of the results of an edge, and of the edges out of a node.
use Rattle.std.specs.Prelude.{None, Option, Some, is_some, MatchOption}
use Rattle.std.proofs.Common.{◌≡◌, ℕ, suc, ◌+◌, ◌*◌, ◌/◌, ◌%◌, ◌<◌, ◌≤◌, Bool, true, false, cond, not, ◌&&◌, eqb, List, [], ◌∷◌, map, length, get_or, set, sym, refl, ap, ◌∙◌, arith, lt-ltb, eq-eqb}
use mathlib.Core.Bool.{false≢true}
use native.Mathlib.Decide.{ℕ_discrete, dec_lt}
use lib.Seq.{set_out}
use Rattle.signs.specs.Lists.{any_of}
use Rattle.signs.proofs.Lists.{or_false}
use Rattle.signs.specs.declared.Truths.{Truths}
use Rattle.program.specs.File.{word_at}
use Rattle.program.specs.FirstSuch.{first_of, first_such}
use Rattle.program.specs.Graph.{Graph, edge_at}
use Rattle.program.specs.Meaning.{meaning}
use Rattle.program.specs.Parts.Preceding.{plain}
use Rattle.program.specs.Parts.Prepared.{Prepared, Following, entries_in, source_in, target_in, action_in, decoded_meaning, is_guard_node, edge_count_place}
use Rattle.program.specs.declared.ActionNode.{ActionNode}
use Rattle.program.proofs.Laws.{first_at, first_more, first_such_lem, none_such}
use Rattle.semantics.specs.Parts.Selecting.{Opens}
use Rattle.semantics.specs.Step.{leaves}
use Rattle.semantics.proofs.Opened.{opens}
use Rattle.analysis.specs.Parts.Changing.{sets_of, ResultsIn}
use Rattle.analysis.specs.Index.{may_be_negative}
use Rattle.analysis.specs.Parts.Judging.{any_missing, picks, handed_over, first_picked, spot_of, names_in, ReadInto, Filled, Searched}
use Rattle.analysis.specs.Parts.Membership.{among, changed, Front}
use Rattle.analysis.specs.Parts.RecordParts.{padded}
use Rattle.analysis.specs.Records.{initial_width, record_width, record_count, record_at, record_for, node_of, memory_of, has_at}
use Rattle.analysis.specs.Signs.{truths_in}
use Rattle.analysis.specs.Verdict.{missing_initial, first_spot}
use Rattle.analysis.specs.declared.Change.{Change}
use Rattle.analysis.specs.declared.Spot.{Spot}
use Rattle.analysis.specs.declared.judging.Query.{Query}
use Rattle.analysis.specs.declared.judging.Query.TheVariants.{MissingResult, NegativeIndex}
use Rattle.analysis.proofs.Accepted.{none_only}
use Rattle.analysis.proofs.Alike.{truths_alike, negative_alike}
use Rattle.analysis.proofs.Among.{has_among}
use Rattle.analysis.proofs.Digits.{sets_none, sets_next}
use Rattle.analysis.proofs.Laid.{record_inside, changed_record, start_reads, memory_reads, node_reads, node_formed}
use Rattle.analysis.proofs.Tested.{own_at, plain_meaning, results_own, results_none}

-- ---- One abstract memory

-- what the index says of it with one name changed, as the code asks
pub has_found : {names : ℕ} {solution index : List ℕ} → Filled names solution index → (ns : List ℕ) → length ns ≡ names → ((i : ℕ) → get_or solution i 0 < 256)
    → (c : Change) → c.node < 65536 → {ρ rho : List ℕ} → ReadInto ρ rho names → Front names rho
    → among (2 + names) solution (record_count (2 + names) solution) (changed names rho c) ≡ has_at ns solution c.node (set ρ c.name c.set)
unfolding record_width
has_found {names} {solution} x ns e small c low {ρ} y f =
    let σ = set ρ c.name c.set in
    ap (among (2 + names) solution (record_count (2 + names) solution)) (changed_record y f c)
    ∙ ap (λ (n : ℕ). among (2 + n) solution (record_count (2 + n) solution) (record_for c.node σ)) (sym e)
    ∙ sym (has_among ns solution _ (rw e x.room) (λ k i h l. small (record_width ns * k + i)) c.node σ low refl)

-- ---- The results of an edge, set by set

module _ (ns solution : List ℕ) (node : ℕ) (ρ : List ℕ) (name : ℕ) where
  abbrev pub SomeMissing : ℕ → Bool
  SomeMissing n = any_missing ns solution node (map (set ρ name) (sets_of n))

  pub none_left : (n : ℕ) → n ≡ 0 → SomeMissing n ≡ false
  unfolding any_missing any_of
  none_left n e = rw (e, sets_none)

  pub one_missing : (n : ℕ) → 0 < n → n < 68719476736 → has_at ns solution node (set ρ name (n % 8)) ≡ false → SomeMissing n ≡ true
  unfolding any_missing any_of
  one_missing n h few p = rw (sets_next n h few, p)

  pub one_listed : (n : ℕ) → 0 < n → n < 68719476736 → has_at ns solution node (set ρ name (n % 8)) ≡ true → SomeMissing n ≡ SomeMissing (n / 8)
  unfolding any_missing any_of
  one_listed n h few p = rw (sets_next n h few, p)

-- ---- One edge

module _ {ns : List ℕ} {g : Graph} {code graph : List ℕ} (p : Prepared ns g code graph) (e : ℕ) (h : e < length g.edges) (a : ActionNode) (told : a ≡ action_in graph e)
    {ρ rho : List ℕ} (y : ReadInto ρ rho (length ns)) (solution : List ℕ) where
  pub picks_missing : is_guard_node a ≡ false → (r : ℕ) → ResultsIn rho (decoded_meaning (entries_in code graph) a) r → (node : ℕ) → node ≡ target_in graph e
      → any_missing ns solution node (map (set ρ (r % 64)) (sets_of (r / 64))) ≡ picks ns g solution MissingResult ρ e
  unfolding picks
  picks_missing plainly r k node t = rw (← k.gives ρ (omega (arith, y.sized, p.coded.few)) y.alike, ← plain_meaning p e h told plainly, t ∙ (p.edge e h).target)

  -- where the abstract memory is a result as it is
  pub own_missing : (s : ℕ) {there : Bool} {node : ℕ} → node ≡ target_in graph e → there ≡ has_at ns solution node (set ρ 32 s)
      → not there ≡ any_missing ns solution (edge_at g e).target (ρ ∷ [])
  unfolding any_missing any_of
  own_missing s t k = rw (k, set_out ρ 32 s (omega (arith, y.sized, p.coded.few)), t ∙ (p.edge e h).target) (sym (or_false _))

  pub picks_negative : may_be_negative rho (decoded_meaning (entries_in code graph) a) ≡ picks ns g solution NegativeIndex ρ e
  unfolding picks
  picks_negative =
      ap (may_be_negative rho) (ap (decoded_meaning (entries_in code graph)) told ∙ (p.edge e h).action) ∙ sym (negative_alike ρ rho y.alike (meaning (plain (edge_at g e).action)))

-- ---- The edges out of a node

-- the first that passes a test, as following the links finds it; and that there is none
module _ {ns : List ℕ} {g : Graph} {code graph : List ℕ} (p : Prepared ns g code graph) (node : ℕ) (q : ℕ → Bool) (e : ℕ) (at : Following graph node (λ k. q k ≡ false) e) where
  leaves_by : (k : ℕ) → k < length g.edges → leaves g k node ≡ eqb (source_in graph k) node
  unfolding leaves
  leaves_by k h = rw (lt-ltb k (length g.edges) h, (p.edge k h).source)

  fails : (k : ℕ) → k < e → k < length g.edges → (leaves g k node && q k) ≡ false
  fails k h l = by (eqb (source_in graph k) node) refl
    where
      by : (b : Bool) → eqb (source_in graph k) node ≡ b → (leaves g k node && q k) ≡ false
      by true t = rw (leaves_by k l, t) (at.before k h (omega (arith, p.edges)) t)
      by false t = rw (leaves_by k l, t)

  first_along : e < get_or graph edge_count_place 0 → q e ≡ true → first_such (length g.edges) (λ k. leaves g k node && q k) ≡ Some e
  first_along h t =
      first_such_lem _ _ e
      (record {
        below = omega (arith, p.edges);
        passes = rw (leaves_by e (omega (arith, p.edges)), eq-eqb (source_in graph e) node (at.here h)) t;
        before = λ k l. fails k l (omega (arith, p.edges));
      })

  none_along : get_or graph edge_count_place 0 ≤ e → first_such (length g.edges) (λ k. leaves g k node && q k) ≡ None
  none_along h = none_such _ _ (λ k l. fails k (omega (arith, p.edges)) l)

-- an edge that a query does not pick, whatever program was prepared and whatever abstract memory was read
abbrev pub Unpicked : (q : Query) (code graph solution index rho : List ℕ) (names e : ℕ) → Type 0
Unpicked q code graph solution index rho names e =
    (ns : List ℕ) (g : Graph) (ρ : List ℕ) → length ns ≡ names → Searched ns g code graph q solution index → ReadInto ρ rho (length ns) → picks ns g solution q ρ e ≡ false

module _ (q : Query) (code graph solution index rho : List ℕ) (names node e : ℕ) (at : Following graph node (Unpicked q code graph solution index rho names) e)
    (ns : List ℕ) (g : Graph) (ρ : List ℕ) (sized : length ns ≡ names) (x : Searched ns g code graph q solution index) (y : ReadInto ρ rho (length ns)) where
  unpicked_before : Following graph node (λ k. picks ns g solution q ρ k ≡ false) e
  unpicked_before = record { here = at.here; before = λ k h l t. at.before k h l t ns g ρ sized x y }

  pub picked_here : e < get_or graph edge_count_place 0 → picks ns g solution q ρ e ≡ true → first_picked ns g solution q node ρ ≡ Some e
  unfolding first_picked
  picked_here h p = first_along x.prepared node _ e unpicked_before h p

  pub none_picked : get_or graph edge_count_place 0 ≤ e → first_picked ns g solution q node ρ ≡ None
  unfolding first_picked
  none_picked h = none_along x.prepared node _ e unpicked_before h

-- ---- 42 at a node whose lowest edge is a guard's of the deterministic graph

-- an edge that is passed over: its own guard may fail, and where it may hold, the abstract memory is listed at the target
pub record Passed (code graph solution index rho : List ℕ) (names e : ℕ) : Type 0 where
  pub fails : (truths_in rho (own_at code graph e)).fails ≡ true
  pub listed : (ns : List ℕ) (g : Graph) (ρ : List ℕ) → length ns ≡ names → Searched ns g code graph MissingResult solution index → ReadInto ρ rho (length ns) → e < length g.edges
      → any_missing ns solution (edge_at g e).target (cond (truths_in rho (own_at code graph e)).holds (ρ ∷ []) []) ≡ false

module _ {ns : List ℕ} {g : Graph} {code graph solution index ρ rho : List ℕ} {names : ℕ} (sized : length ns ≡ names) (x : Searched ns g code graph MissingResult solution index) (y : ReadInto ρ rho (length ns))
    {node first : ℕ} (opened : Opens graph node first) (e : ℕ) (at : Following graph node (Passed code graph solution index rho names) e) where
  count_is : get_or graph edge_count_place 0 ≡ length g.edges
  count_is = x.prepared.edges

  alike : (k : ℕ) → truths_in ρ (own_at code graph k) ≡ truths_in rho (own_at code graph k)
  alike k = truths_alike ρ rho y.alike (own_at code graph k)

  -- up to the edge, one is picked by its own guard
  picks_own : (k : ℕ) → k ≤ e → k < get_or graph edge_count_place 0 → eqb (source_in graph k) node ≡ true
      → picks ns g solution MissingResult ρ k ≡ any_missing ns solution (edge_at g k).target (cond (truths_in rho (own_at code graph k)).holds (ρ ∷ []) [])
  unfolding picks
  picks_own k l h s =
      ap (any_missing ns solution (edge_at g k).target)
      (results_own x.prepared ρ opened k (omega (arith, count_is)) s
      (λ i m t. ap (λ (v : Truths). v.fails) (alike i) ∙ (at.before i (omega arith) (omega arith) t).fails)
      ∙ ap (λ (v : Truths). cond v.holds (ρ ∷ []) []) (alike k))

  unpicked : (k : ℕ) → k < e → k < get_or graph edge_count_place 0 → eqb (source_in graph k) node ≡ true → picks ns g solution MissingResult ρ k ≡ false
  unpicked k l h s = picks_own k (omega arith) h s ∙ (at.before k l h s).listed ns g ρ sized x y (omega (arith, count_is))

  pub no_guard : get_or graph edge_count_place 0 ≤ e → first_picked ns g solution MissingResult node ρ ≡ None
  unfolding first_picked
  no_guard h = none_along x.prepared node _ e (record { here = at.here; before = unpicked }) h

  module _ (h : e < get_or graph edge_count_place 0) where
    leaves_here : eqb (source_in graph e) node ≡ true
    leaves_here = eq-eqb (source_in graph e) node (at.here h)

    -- a result is missing along it
    pub missing_here : any_missing ns solution (edge_at g e).target (cond (truths_in rho (own_at code graph e)).holds (ρ ∷ []) []) ≡ true → first_picked ns g solution MissingResult node ρ ≡ Some e
    unfolding first_picked
    missing_here t = first_along x.prepared node _ e (record { here = at.here; before = unpicked }) h (picks_own e (omega arith) h leaves_here ∙ t)

    -- or none is, and its own guard may not fail: no edge after it has a result
    pub none_after : any_missing ns solution (edge_at g e).target (cond (truths_in rho (own_at code graph e)).holds (ρ ∷ []) []) ≡ false → (truths_in rho (own_at code graph e)).fails ≡ false
        → first_picked ns g solution MissingResult node ρ ≡ None
    unfolding first_picked picks any_missing any_of
    none_after t u = none_along x.prepared node _ (get_or graph edge_count_place 0) (record { here = λ l. absurd (omega arith); before = each }) (omega arith)
      where
        later : (k : ℕ) → e < k → k < get_or graph edge_count_place 0 → eqb (source_in graph k) node ≡ true → picks ns g solution MissingResult ρ k ≡ false
        later k l c s =
            ap (any_missing ns solution (edge_at g k).target)
            (results_none x.prepared ρ opened k (omega (arith, count_is)) s e l leaves_here (ap (λ (v : Truths). v.fails) (alike e) ∙ u))

        each : (k : ℕ) → k < get_or graph edge_count_place 0 → k < get_or graph edge_count_place 0 → eqb (source_in graph k) node ≡ true → picks ns g solution MissingResult ρ k ≡ false
        each k c d s =
            elim (dec_lt k e) [
              | yes l ↦ unpicked k l c s
              | no l ↦
                  elim (ℕ_discrete k e) [
                    | yes q ↦ rw q (picks_own e (omega arith) h leaves_here ∙ t)
                    | no q ↦ later k (omega arith) c s
                  ]
            ]

-- where a query is handed over, it is 42
pub handed_here : (q : Query) {ns : List ℕ} {g : Graph} {code graph solution index ρ rho : List ℕ} {node e : ℕ} → Searched ns g code graph q solution index → ReadInto ρ rho (length ns)
    → Following graph node (λ k. handed_over q (action_in graph k) ≡ false) e → e < get_or graph edge_count_place 0 → handed_over q (action_in graph e) ≡ true → {r : Option ℕ}
    → (Searched ns g code graph MissingResult solution index → ReadInto ρ rho (length ns) → Opens graph node e → r ≡ first_picked ns g solution MissingResult node ρ)
    → r ≡ first_picked ns g solution q node ρ
unfolding handed_over
handed_here MissingResult x y at h t found = found x y (opens x.prepared at h t)
handed_here NegativeIndex x y at h t found = absurd (false≢true t)

-- ---- One record

-- as the code reads it: its node, one of 129, and its abstract memory
module _ {ns : List ℕ} {g : Graph} {code graph : List ℕ} {q : Query} {solution index : List ℕ} (x : Searched ns g code graph q solution index) (k : ℕ)
    (h : k < record_count (2 + names_in code) solution) where
  same_names : length ns ≡ names_in code
  same_names = sym x.prepared.coded.count

  width : record_width ns ≡ 2 + names_in code
  unfolding record_width
  width = ap (λ (n : ℕ). 2 + n) same_names

  pub node_read : (node : ℕ) → node ≡ word_at solution ((2 + names_in code) * k) → node_of (record_at (record_width ns) solution k) ≡ node
  node_read node p = ap (λ (w : ℕ). node_of (record_at w solution k)) width ∙ node_reads solution k (names_in code) ∙ sym p

  pub node_low : (node : ℕ) → node ≡ word_at solution ((2 + names_in code) * k) → node < 129
  node_low node p =
      let formed = node_formed ns g solution x.formed k (rw width h) in
      omega (arith, p, ap (λ (w : ℕ). word_at solution (w * k)) width, x.prepared.few_nodes)

  pub memory_read : (rho : List ℕ) → rho ≡ padded solution ((2 + names_in code) * k + 2) (names_in code) → ReadInto (memory_of ns (record_at (record_width ns) solution k)) rho (length ns)
  unfolding record_count
  memory_read rho p =
      rw (width, same_names)
      (memory_reads solution k (names_in code) ns same_names (omega (arith, same_names, x.prepared.coded.few)) (record_inside (length solution) (2 + names_in code) k h) rho p)

-- the first record that a query finds something at, as a loop finds it
module _ (ns : List ℕ) (g : Graph) (solution : List ℕ) (q : Query) where
  abbrev pub NowhereTo : ℕ → Type 0
  NowhereTo k = first_of is_some None k (spot_of ns g solution q) ≡ None

  pub nowhere_none : NowhereTo 0
  unfolding first_of
  nowhere_none = refl

  pub spot_here : (k : ℕ) → k < record_count (record_width ns) solution → NowhereTo k → (spot : Option Spot) → spot ≡ spot_of ns g solution q k → is_some spot ≡ true
      → spot ≡ first_spot ns g solution (picks ns g solution q)
  unfolding first_spot spot_of first_picked
  spot_here k h e spot p t = p ∙ sym (first_at is_some None refl none_only _ (spot_of ns g solution q) k h e (ap is_some (sym p) ∙ t))

  pub spot_beyond : (k : ℕ) → NowhereTo k → (spot : Option Spot) → spot ≡ spot_of ns g solution q k → is_some spot ≡ false → NowhereTo (suc k)
  spot_beyond k e spot p t = first_more is_some None refl none_only (spot_of ns g solution q) k e (sym p ∙ none_only spot t)

  pub spot_nowhere : (k : ℕ) → k ≡ record_count (record_width ns) solution → NowhereTo k → None ≡ first_spot ns g solution (picks ns g solution q)
  unfolding first_spot spot_of first_picked
  spot_nowhere k p e = sym (rw (← p) e)

-- ---- Start records

-- record k, as the code reads it; name 32 leaves it as it is
module _ {names : ℕ} (ns : List ℕ) (e : length ns ≡ names) (few : names ≤ 32) (initial : List ℕ) (k : ℕ) (h : k < record_count names initial) where
  start_inside : names * k + names ≤ length initial
  unfolding record_count
  start_inside = record_inside (length initial) names k h

  pub start_read : (rho : List ℕ) → rho ≡ padded initial (names * k) names → ReadInto (record_at (initial_width ns) initial k) rho names
  unfolding initial_width
  start_read rho p = rw e (start_reads initial k names few start_inside rho p)

  pub start_unchanged : (rho : List ℕ) → rho ≡ padded initial (names * k) names → (s : ℕ) → set (record_at (initial_width ns) initial k) 32 s ≡ record_at (initial_width ns) initial k
  start_unchanged rho p s = set_out _ 32 s (omega (arith, (start_read rho p).sized))

-- the first start record that is missing, by what is known of those passed and of the one found
module _ (ns : List ℕ) (initial solution : List ℕ) where
  abbrev pub is_missing : ℕ → Bool
  is_missing k = not (has_at ns solution 0 (record_at (initial_width ns) initial k))

  pub missing_found : {names : ℕ} → length ns ≡ names → (count : ℕ) → count ≡ record_count names initial → (r : Option ℕ)
      → MatchOption r ((k : ℕ) → 0 ≤ k → k < count → is_missing k ≡ false) (λ k. (0 ≤ k) × (k < count) × (is_missing k ≡ true) × ((j : ℕ) → 0 ≤ j → j < k → is_missing j ≡ false))
      → r ≡ missing_initial ns initial solution
  unfolding missing_initial initial_width
  missing_found e count p None h = sym (none_such _ is_missing (λ k l. h k (omega arith) (omega (arith, p, ap (λ (n : ℕ). record_count n initial) e))))
  missing_found e count p (Some k) h =
      sym
      (first_such_lem _ is_missing k
      (record { below = omega (arith, h.1, p, ap (λ (n : ℕ). record_count n initial) e); passes = h.2; before = λ j l. h.3 j (omega arith) l }))
