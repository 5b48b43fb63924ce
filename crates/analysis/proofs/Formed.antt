-- The solver's own list passes questions 16 and 17: its records are whole, each at a node of the graph, with signs that are right for their names.
use Rattle.std.specs.Prelude.{Err, Ok}
use Rattle.std.proofs.Common.{◌≡◌, ℕ, zero, suc, ◌+◌, ◌*◌, ◌/◌, ◌%◌, ◌<◌, ◌≤◌, Bool, true, false, cond, ◌&&◌, T, eqb, ltb, List, [], ◌∷◌, ◌++◌, map, length, get_or, take, drop, set, sym, refl, ap, ◌∙◌, subst, true≢false, append_assoc, append-nil, add_assoc, add_comm, mul-zero, mul-suc, arith, length-append, length-drop, length-set, length-take-le, get_or-drop, take_all, get_or-set_other, get_or-take, get_or-set_same, take_at, ltb-true, lt-ltb, eq-eqb, ne_eqb, le-leb}
use mathlib.Core.List.{flat_map, flatten, foldl}
use native.Mathlib.Decide.{ℕ_discrete}
use native.Mathlib.Nat.{mul-div_right, mul-mod_right}
use lib.Seq.{drop-append-add}
use mir.Facts.{and_yes}
use Rattle.signs.specs.Lists.{tabulate, passing, indices}
use Rattle.signs.specs.Sign.{single, has, members, added, removed}
use Rattle.signs.specs.declared.Sign.{Sign}
use Rattle.signs.specs.declared.Sign.TheVariants.{Minus, Zero, Plus}
use Rattle.signs.proofs.Laws.{has_empty, has_single, has_added, added_below}
use Rattle.signs.proofs.Lists.{or_right}
use Rattle.program.specs.File.{byte_at, word_at, sizes, is_variable, is_array}
use Rattle.program.specs.Graph.{Graph, graph, edges, edge_count, node_count, edge_at, word_bytes}
use Rattle.program.specs.Meaning.{Meaning, nothing, assigns, stores, condition, meaning}
use Rattle.program.specs.Parts.Preceding.{plain_graph}
use Rattle.program.specs.Parts.Sorted.{arith_named, meaning_named}
use Rattle.program.specs.Asking.{ask, then_ask, ask_each, is_refused, Validity}
use Rattle.program.specs.declared.Construction.{Construction}
use Rattle.program.specs.declared.Construction.TheVariants.{Nondeterministic}
use Rattle.program.specs.Questions.{validity}
use Rattle.program.proofs.Laws.{all_nothing, each_fit, two_nodes, edge_inside, few_nodes, edge_faithful, meaning_named_lem, plain_graph_lem}
use Rattle.program.proofs.Lists.{Each, none, more, each_append, each_at}
use Rattle.program.proofs.Tests.{is_true}
use Rattle.semantics.specs.Step.{leaves}
use Rattle.analysis.specs.Abstraction.{well_formed}
use Rattle.analysis.specs.Records.{initial_width, record_width, record_count, record_at, records_of, record_for, node_of, memory_of, listed, whole_records, memory_formed, initial_formed, solution_formed}
use Rattle.analysis.specs.Results.{assigned_sets, sets_with, stored_sets, results}
use Rattle.analysis.specs.Signs.{may_index, signs_in, truths_in}
use Rattle.analysis.specs.Solver.{Found, offer, offer_results, offer_successors, descend, solution}
use Rattle.analysis.specs.Verdict.{index_mark, solution_validity, marking_by, marking}
use Rattle.analysis.proofs.Laid.{record_inside, node_reads, byte_formed}

-- ---- Every element

module _ {A : Type 0} {P : A → Type 0} where
  each_tabulate : (n : ℕ) (f : ℕ → A) → ((i : ℕ) → i < n → P (f i)) → Each P (tabulate n f)
  unfolding tabulate
  each_tabulate zero f h = none
  each_tabulate (suc n) f h = each_append (each_tabulate n f (λ i l. h i (omega arith))) (more (h n (omega arith)) none)

  each_either : (b : Bool) {xs ys : List A} → Each P xs → Each P ys → Each P (cond b xs ys)
  each_either true h k = h
  each_either false h k = k

  each_passing : (p : A → Bool) {xs : List A} → Each P xs → Each P (passing p xs)
  unfolding passing
  each_passing p none = none
  each_passing p (more h hs) = each_either (p _) (more h (each_passing p hs)) (each_passing p hs)

  each_map : {B : Type 0} (f : B → A) → ((x : B) → P (f x)) → (xs : List B) → Each P (map f xs)
  each_map f h [] = none
  each_map f h (x ∷ xs) = more (h x) (each_map f h xs)

  each_flat_map : {B : Type 0} (f : B → List A) → ((x : B) → Each P (f x)) → (xs : List B) → Each P (flat_map f xs)
  unfolding flat_map
  each_flat_map f h [] = none
  each_flat_map f h (x ∷ xs) = each_append (h x) (each_flat_map f h xs)

  each_mapped : {B : Type 0} {Q : B → Type 0} (f : B → A) → ((x : B) → Q x → P (f x)) → {xs : List B} → Each Q xs → Each P (map f xs)
  each_mapped f h none = none
  each_mapped f h (more q qs) = more (h _ q) (each_mapped f h qs)

-- what a step keeps is kept by all of them
kept : {A B : Type 0} (P : B → Type 0) {Q : A → Type 0} (f : B → A → B) → ((b : B) (x : A) → P b → Q x → P (f b x)) → {xs : List A} → Each Q xs → (b : B) → P b → P (foldl f b xs)
kept P f step none b p = p
kept P f step (more q qs) b p = kept P f step qs (f b _) (step b _ p q)

-- ---- Abstract memories

-- a set for each name, right for its size
pub record FormedMemory (ns ρ : List ℕ) : Type 0 where
  pub sized : length ρ ≡ length ns
  pub formed : (i : ℕ) → i < length ns → well_formed (get_or ns i 0) (get_or ρ i 0) ≡ true

formed_set : {ns ρ : List ℕ} → FormedMemory ns ρ → (x v : ℕ) → well_formed (get_or ns x 0) v ≡ true → FormedMemory ns (set ρ x v)
formed_set {ns} {ρ} m x v e =
    record {
      sized = length-set ρ x v ∙ m.sized;
      formed = λ i h. elim (ℕ_discrete i x) [
        | yes p ↦ rw (p, get_or-set_same ρ x v 0 (omega (arith, m.sized))) e
        | no d ↦ rw (get_or-set_other ρ x i v 0 d) (m.formed i h)
      ];
    }

-- one sign is right for a variable
single_formed : (size : ℕ) → eqb size 0 ≡ true → (s : Sign) → well_formed size (single s) ≡ true
unfolding well_formed single
single_formed size e Minus = rw e
single_formed size e Zero = rw e
single_formed size e Plus = rw e

-- a set that has a sign is not empty, so a set with a sign added is right for an array
some_set : (set : ℕ) (s : Sign) → T (has set s) → 1 ≤ set
some_set zero s t = absurd (subst T (has_empty s) t)
some_set (suc set) s t = omega arith

added_formed : (size : ℕ) → 0 < size → (s : Sign) (old : ℕ) → well_formed size (added s old) ≡ true
unfolding well_formed
added_formed size h s old =
    let there : T (has (added s old) s) = subst T (sym (has_added s old s)) (or_right (has old s) (has (single s) s) (has_single s)) in
    rw (ne_eqb size 0 (λ e. omega arith), le-leb 1 (added s old) (some_set (added s old) s there), le-leb (added s old) 7 (omega (arith, added_below s old)))

-- an array's sets after a store
stored_formed : (size : ℕ) → 0 < size → (old values : ℕ) → Each (λ set. well_formed size set ≡ true) (stored_sets old values)
unfolding stored_sets sets_with
stored_formed size h old values =
    each_flat_map (sets_with old)
    (λ s. more (added_formed size h s old) (each_map (λ t. added s (removed t old)) (λ t. added_formed size h s (removed t old)) (members old)))
    (members values)

-- a variable's sets after an assignment
assigned_formed : (size : ℕ) → eqb size 0 ≡ true → (values : ℕ) → Each (λ set. well_formed size set ≡ true) (assigned_sets values)
unfolding assigned_sets
assigned_formed size e values = each_map single (single_formed size e) (members values)

-- so the results of an action whose names are there and of the right sort
results_formed : {ns ρ : List ℕ} → FormedMemory ns ρ → (m : Meaning) → T (meaning_named ns m) → Each (FormedMemory ns) (results ρ m)
unfolding results meaning_named is_variable is_array
results_formed h nothing t = more h none
results_formed {ns} {ρ} h (assigns x a) t =
    let variable = (and_yes (ltb x (length ns)) (eqb (get_or ns x 0) 0) (and_yes (is_variable ns x) (arith_named ns a) t).0).1 in
    each_mapped (set ρ x) (λ v e. formed_set h x v e) (assigned_formed (get_or ns x 0) (is_true _ variable) (signs_in ρ a))
results_formed {ns} {ρ} h (stores x i a) t =
    let array = (and_yes (ltb x (length ns)) (ltb 0 (get_or ns x 0)) (and_yes (is_array ns x) (arith_named ns i && arith_named ns a) t).0).1 in
    each_either (may_index (signs_in ρ i))
    (each_mapped (set ρ x) (λ v e. formed_set h x v e) (stored_formed (get_or ns x 0) (ltb-true _ _ (is_true _ array)) (get_or ρ x 0) (signs_in ρ a)))
    none
results_formed {ns} {ρ} h (condition b) t = each_either (truths_in ρ b).holds (more h none) none

-- and the records of a start list of which 17 was answered yes
start_formed : (ns initial : List ℕ) → initial_formed ns initial ≡ Ok tt → Each (FormedMemory ns) (records_of (initial_width ns) initial)
unfolding records_of initial_formed initial_width record_count record_at byte_at
start_formed ns initial fit =
    each_tabulate (length initial / length ns) (record_at (length ns) initial)
    (λ k h. record {
      sized = length-take-le (length ns) (drop (length ns * k) initial) (omega (arith, length-drop (length ns * k) initial, record_inside (length initial) (length ns) k h));
      formed = λ i l. rw (get_or-take (length ns) (drop (length ns * k) initial) i 0 l, get_or-drop) (byte_formed ns initial (length ns * k) (each_fit _ _ fit k h) i l);
    })

-- ---- Records

-- a record at one of so many nodes, with an abstract memory that is well formed
pub record FormedRecord (ns : List ℕ) (nodes : ℕ) (r : List ℕ) : Type 0 where
  pub sized : length r ≡ record_width ns
  pub node : node_of r < nodes
  pub memory : FormedMemory ns (memory_of ns r)

formed_record : {ns ρ : List ℕ} (nodes node : ℕ) → nodes ≤ 65536 → node < nodes → FormedMemory ns ρ → FormedRecord ns nodes (record_for node ρ)
unfolding record_for record_width node_of memory_of word_bytes word_at byte_at
formed_record {ns} {ρ} nodes node few h m =
    record {
      sized = omega (arith, m.sized);
      node = omega arith;
      memory = rw (take_all (length ns) ρ (omega (arith, m.sized))) m;
    }

-- a list of so many records at most, each of them so
pub record FormedList (ns : List ℕ) (nodes room : ℕ) (rs : List (List ℕ)) : Type 0 where
  pub few : length rs ≤ room
  pub each : Each (FormedRecord ns nodes) rs

-- what the solver's list keeps
module _ (ns : List ℕ) (g : Graph) (room : ℕ) (low : g.nodes ≤ 65536) where
  abbrev Formed : Found → Type 0
  Formed f = FormedList ns g.nodes room f.records

  either_formed : (b : Bool) (f h : Found) → (b ≡ true → Formed f) → Formed h → Formed (cond b f h)
  either_formed true f h p q = p refl
  either_formed false f h p q = q

  offer_formed : (node : ℕ) → node < g.nodes → (f : Found) (ρ : List ℕ) → Formed f → FormedMemory ns ρ → Formed (offer ns room node f ρ)
  unfolding offer
  offer_formed node h f ρ p m =
      either_formed f.full f _ (λ e. p)
      (either_formed (listed ns f.records node ρ) f _ (λ e. p)
      (either_formed (ltb (length f.records) room) _ _
      (λ e. record {
        few = rw (length-append f.records (record_for node ρ ∷ [])) (omega (arith, ltb-true (length f.records) room e));
        each = each_append p.each (more (formed_record g.nodes node low h m) none);
      })
      p))

  -- of a graph whose edges end at its nodes and have actions whose names are there
  module _ (targets : (e : ℕ) → e < length g.edges → (edge_at g e).target < g.nodes)
      (named : (e : ℕ) → e < length g.edges → T (meaning_named ns (meaning (edge_at g e).action))) where
    along_formed : (ρ : List ℕ) → FormedMemory ns ρ → (f : Found) (e : ℕ) → Formed f → e < length g.edges → Formed (offer_results ns g room ρ f e)
    unfolding offer_results
    along_formed ρ m f e p h =
        kept Formed (offer ns room (edge_at g e).target) (λ f σ. offer_formed (edge_at g e).target (targets e h) f σ)
        (results_formed m (meaning (edge_at g e).action) (named e h)) f p

    successors_formed : (r : List ℕ) (f : Found) → FormedRecord ns g.nodes r → Formed f → Formed (offer_successors ns g room r f)
    unfolding offer_successors indices
    successors_formed r f q p =
        kept Formed (offer_results ns g room (memory_of ns r)) (λ f e. along_formed (memory_of ns r) q.memory f e)
        (each_passing (λ e. leaves g e (node_of r)) (each_tabulate (length g.edges) (λ i. i) (λ i h. h))) f p

    descend_formed : (turns k : ℕ) (f : Found) → Formed f → Formed (descend turns ns g room k f)
    unfolding descend
    descend_formed zero k f p = p
    descend_formed (suc turns) k f p =
        either_formed (ltb k (length f.records)) _ f
        (λ e. descend_formed turns (k + 1) _ (successors_formed (get_or f.records k []) f (each_at k [] p.each (ltb-true _ _ e)) p)) p

    -- from a start list of which 17 was answered yes
    solution_kept : 0 < g.nodes → (initial : List ℕ) → initial_formed ns initial ≡ Ok tt → Formed (solution ns g initial room)
    unfolding solution
    solution_kept some initial fit =
        descend_formed room 0 _
        (kept Formed (offer ns room 0) (λ f ρ. offer_formed 0 some f ρ) (start_formed ns initial fit) (record { records = []; full = false })
        (record { few = omega arith; each = none }))

-- ---- The records as they lie

-- what is asked of each and answered yes
each_fits : (n : ℕ) (q : ℕ → Validity) → ((k : ℕ) → k < n → q k ≡ Ok tt) → ask_each n q ≡ Ok tt
unfolding ask_each is_refused
each_fits n q h = all_nothing is_refused (Ok tt) refl only n q h
  where
    only : (v : Validity) → is_refused v ≡ false → v ≡ Ok tt
    only (Ok _) e = refl
    only (Err x) e = absurd (true≢false e)

module _ {width : ℕ} where
  pub flat_length : (rs : List (List ℕ)) → Each (λ r. length r ≡ width) rs → length (flatten rs) ≡ width * length rs
  unfolding flatten
  flat_length [] none = sym (mul-zero width)
  flat_length (r ∷ rs) (more h hs) = rw (length-append r (flatten rs), h, flat_length rs hs, mul-suc width (length rs)) (omega arith)

  -- record k, whatever follows them
  pub record_laid : (rs : List (List ℕ)) → Each (λ r. length r ≡ width) rs → (rest : List ℕ) (k : ℕ) → k < length rs → record_at width (flatten rs ++ rest) k ≡ get_or rs k []
  unfolding flatten record_at
  record_laid [] none rest k l = absurd (omega arith)
  record_laid (r ∷ rs) (more h hs) rest zero l = rw (mul-zero, append_assoc r (flatten rs) rest) (take_at r (flatten rs ++ rest) width h)
  record_laid (r ∷ rs) (more h hs) rest (suc k) l =
      let past : drop (width * suc k) (r ++ flatten rs ++ rest) ≡ drop (width * k) (flatten rs ++ rest) =
      rw (append_assoc r (flatten rs) rest, mul-suc width k) (rw (← h, add_comm (length r * k) (length r)) (drop-append-add r (flatten rs ++ rest) (length r * k))) in
      rw past (record_laid rs hs rest k (omega arith))

-- ---- What is asked of such a list

-- a list of such records passes 16 and 17, and comes back marked
module _ (ns : List ℕ) (g : Graph) (room : ℕ) (few : room ≤ 4096) (rs : List (List ℕ)) (all : FormedList ns g.nodes room rs) where
  pub sized_each : Each (λ r. length r ≡ record_width ns) rs
  sized_each = each_so all.each
    where
      each_so : {xs : List (List ℕ)} → Each (FormedRecord ns g.nodes) xs → Each (λ r. length r ≡ record_width ns) xs
      each_so none = none
      each_so (more h hs) = more h.sized (each_so hs)

  pub count_laid : record_count (record_width ns) (flatten rs) ≡ length rs
  unfolding record_count record_width
  count_laid = rw (flat_length rs sized_each) (mul-div_right (length rs) (omega arith))

  pub whole_list : whole_records (record_width ns) (flatten rs) ≡ true
  unfolding whole_records record_width
  whole_list =
      rw (
        eq-eqb (length (flatten rs) % (2 + length ns)) 0 (rw (flat_length rs sized_each) (mul-mod_right (2 + length ns) (length rs))),
        le-leb (record_count (2 + length ns) (flatten rs)) 4096 (omega (arith, count_laid, all.few)),
      )

  -- record k as it is read
  laid_at : (k : ℕ) → k < length rs → record_at (record_width ns) (flatten rs) k ≡ get_or rs k []
  laid_at k h = rw (← append-nil (flatten rs)) (record_laid rs sized_each [] k h)

  node_passes : (k : ℕ) → k < length rs → ask (ltb (word_at (flatten rs) (record_width ns * k)) g.nodes) 17 (record_width ns * k) ≡ Ok tt
  unfolding ask record_width
  node_passes k h =
      rw (lt-ltb (word_at (flatten rs) (record_width ns * k)) g.nodes
      (rw (← node_reads (flatten rs) k (length ns), laid_at k h) (each_at k [] all.each h).node))

  byte_read : (k : ℕ) → k < length rs → (i : ℕ) → i < length ns → byte_at (flatten rs) (record_width ns * k + 2 + i) ≡ get_or (memory_of ns (get_or rs k [])) i 0
  unfolding byte_at memory_of record_at record_width
  byte_read k h i l =
      let row = drop (record_width ns * k) (flatten rs) in
      rw (← laid_at k h, get_or-take (length ns) (drop 2 (take (record_width ns) row)) i 0 l, get_or-drop 2 (take (record_width ns) row) i 0)
      (sym (get_or-take (record_width ns) row (2 + i) 0 (omega arith) ∙ get_or-drop (record_width ns * k) (flatten rs) (2 + i) 0 ∙ ap (λ n. get_or (flatten rs) n 0) (sym (add_assoc (record_width ns * k) 2 i))))

  memory_passes : (k : ℕ) → k < length rs → memory_formed ns (flatten rs) (record_width ns * k + 2) ≡ Ok tt
  unfolding memory_formed ask
  memory_passes k h = each_fits (length ns) _ (λ i l. rw (byte_read k h i l, (each_at k [] all.each h).memory.formed i l))

  pub formed_list : solution_formed ns g (flatten rs) ≡ Ok tt
  unfolding solution_formed then_ask
  formed_list = rw count_laid (each_fits (length rs) _ (λ k h. rw (node_passes k h) (memory_passes k h)))

-- ---- The solver's list for a file

module _ (κ : Construction) (s initial : List ℕ) (fit : validity s ≡ Ok tt) (formed : initial_formed (sizes s) initial ≡ Ok tt) (room : ℕ) where
  pub solution_list : FormedList (sizes s) (graph κ s).nodes room (solution (sizes s) (graph κ s) initial room).records
  unfolding edges edge_count node_count edge_at
  solution_list =
      solution_kept (sizes s) (graph κ s) room (omega (arith, few_nodes s fit κ))
      (λ e h. (edge_inside κ s e _ h).target_inside)
      (λ e h. meaning_named_lem (sizes s) (edge_at (graph κ s) e).action (edge_faithful s fit κ e _ h).named)
      (omega (arith, two_nodes κ s)) initial formed

  -- its nodes are those of document 01's graph, on which its mark is asked
  listed_alike : FormedList (sizes s) (graph Nondeterministic s).nodes room (solution (sizes s) (graph κ s) initial room).records
  unfolding plain_graph
  listed_alike = subst (λ (g : Graph). FormedList (sizes s) g.nodes room (solution (sizes s) (graph κ s) initial room).records) (plain_graph_lem κ s) solution_list

  pub solution_marked : room ≤ 4096 → (let rs = (solution (sizes s) (graph κ s) initial room).records in marking s (flatten rs) ≡ Ok (index_mark (sizes s) (graph Nondeterministic s) (flatten rs)))
  unfolding marking marking_by solution_validity then_ask ask
  solution_marked few =
      let rs = (solution (sizes s) (graph κ s) initial room).records in
      rw (fit, whole_list (sizes s) (graph Nondeterministic s) room few rs listed_alike, formed_list (sizes s) (graph Nondeterministic s) room few rs listed_alike)
