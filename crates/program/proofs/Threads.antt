-- The edges of a prepared graph are linked one by one, from the last; and a graph stays prepared where only the links change.
use mathlib.Core.Path.{◌≡◌, refl, sym, ap, ◌∙◌}
use mathlib.Core.List.{List, []}
use Prim.Native.Nat.{ℕ, suc, ◌+◌, ◌-◌, ◌<◌, ◌≤◌}
use native.Mathlib.Decide.{ℕ_discrete, dec_le}
use native.Mathlib.Omega.{arith}
use borrow.Author.Tests.{lt-ltb, le-ltb}
use borrow.Author.Rules.{rules}
use borrow.Rule.Slice.PartMut.{put_mid}
use lib.ListN.{length, get_or, set, take, drop, replicate, length-set, length-take, length-drop}
use Rattle.std.proofs.lemmas.List.{places, length-replicate}
use lib.Seq.{get_or-set_same, get_or-set_other}
use Rattle.program.specs.Graph.{Graph}
use Rattle.program.specs.Parts.Prepared.{lowest_from, first_place, next_place, node_count_place, edge_count_place, graph_length, edge_in, source_in, target_in, action_in, first_in, next_in, PreparedEdge, Prepared}
use Rattle.program.specs.Parts.LinkingParts.{Linkable, SameButLinks, linked_one, Unlinked, LinkedFrom}
use Rattle.program.proofs.Links.{lowest_here, lowest_beyond}
use Rattle.program.proofs.Rows.{same_entries}

-- what a graph has beside its links is that of another
module _ {old new : List ℕ} (same : SameButLinks old new) where
  edge_same : (e k : ℕ) → k < 4 → edge_in new e k ≡ edge_in old e k
  unfolding edge_in
  edge_same e k h =
      elim (dec_le 255 e) [
        | yes p ↦ rw (le-ltb e 255 p)
        | no p ↦ rw (lt-ltb e 255 (omega arith)) (same.before _ (omega arith))
      ]

  pub source_same : (e : ℕ) → source_in new e ≡ source_in old e
  unfolding source_in
  source_same e = edge_same e 0 (omega arith)

  target_same : (e : ℕ) → target_in new e ≡ target_in old e
  unfolding target_in
  target_same e = edge_same e 1 (omega arith)

  action_same : (e : ℕ) → action_in new e ≡ action_in old e
  unfolding action_in
  action_same e = rw (same_entries [] old new (λ i h. same.before i (omega arith)), edge_same e 2 (omega arith), edge_same e 3 (omega arith))

  pub edges_same : get_or new edge_count_place 0 ≡ get_or old edge_count_place 0
  edges_same = same.after edge_count_place (omega arith)

  pub linkable_kept : Linkable old → Linkable new
  linkable_kept l = record { few = omega (arith, edges_same, l.few); inside = λ e h. rw (source_same e) (l.inside e (omega (arith, edges_same))) }

  pub same_then : (older : List ℕ) → SameButLinks older old → SameButLinks older new
  same_then older earlier =
      record {
        before = λ i p. same.before i p ∙ earlier.before i p;
        after = λ i p. same.after i p ∙ earlier.after i p;
      }

-- a part of a list filled with one number
module _ (at n x : ℕ) (old filled : List ℕ) (room : at + n ≤ length old) (all : filled ≡ replicate n x) where
  abbrev new : List ℕ
  new = put_mid at n old filled

  long : length filled ≡ n
  long = rw (all, length-replicate)

  filled_length : length new ≡ length old
  filled_length = search (rules, places, long)

  filled_before : (i : ℕ) → i < at → get_or new i 0 ≡ get_or old i 0
  filled_before i h = search (rules, places, long)

  filled_inside : (j : ℕ) → j < n → get_or new (at + j) 0 ≡ x
  filled_inside j h = rw all (search (rules, places, long))

  filled_after : (i : ℕ) → at + n ≤ i → get_or new i 0 ≡ get_or old i 0
  filled_after i h = search (rules, places, long)

-- a graph whose 129 first links are 255
pub cleared : (old filled : List ℕ) → length old ≡ graph_length → filled ≡ replicate (length (take 129 (drop first_place old))) 255 → Unlinked old (put_mid first_place 129 old filled)
cleared old filled room e =
    let long : length (take 129 (drop first_place old)) ≡ 129 = simp (length-take, length-drop) (omega arith) in
    let fits : first_place + 129 ≤ length old = omega arith in
    let all : filled ≡ replicate 129 255 = e ∙ ap (λ n. replicate n 255) long in
    record {
      size = filled_length first_place 129 255 old filled fits all ∙ room;
      same = record { before = filled_before first_place 129 255 old filled fits all; after = λ i h. filled_after first_place 129 255 old filled fits all i (omega arith) };
      none = filled_inside first_place 129 255 old filled fits all;
    }

-- a graph with the links of the edges from i on
pub record Held (old : List ℕ) (i : ℕ) (new : List ℕ) : Type 0 where
  pub room : length new ≡ graph_length
  pub same : SameButLinks old new
  pub lowest : (node : ℕ) → node < 129 → get_or new (first_place + node) 0 ≡ lowest_from (get_or old edge_count_place 0 - i) (source_in old) i node
  pub later : (e : ℕ) → i ≤ e → e < get_or old edge_count_place 0
      → get_or new (next_place + e) 0 ≡ lowest_from (get_or old edge_count_place 0 - suc e) (source_in old) (suc e) (source_in old e)

-- the edges are still out of one of 129 nodes
pub held_inside : {old new : List ℕ} {i : ℕ} → Held old i new → Linkable old → (e : ℕ) → e < get_or old edge_count_place 0 → source_in new e < 129
held_inside l able e h = omega (arith, source_same l.same e, able.inside e h)

-- before the last edge nothing is linked
pub held_none : {old new : List ℕ} → Unlinked old new → Held new (get_or new edge_count_place 0) new
unfolding lowest_from
held_none {new = new} u =
    let none : get_or new edge_count_place 0 - get_or new edge_count_place 0 ≡ 0 = omega arith in
    record {
      room = u.size;
      same = record { before = λ i p. refl; after = λ i p. refl };
      lowest = λ node h. u.none node h ∙ rw none;
      later = λ e a b. absurd (omega arith);
    }

module _ (old : List ℕ) where
  abbrev n : ℕ
  n = get_or old edge_count_place 0

  -- one more edge, before those linked
  module _ (few : n ≤ 255) (new : List ℕ) (e : ℕ) (h : e < n) (inside : source_in old e < 129) (l : Held old (suc e) new) where
    one_more : n - e ≡ suc (n - suc e)
    one_more = omega arith

    abbrev node : ℕ
    node = source_in old e

    abbrev first : List ℕ
    first = set new (next_place + e) (get_or new (first_place + node) 0)

    first_room : length first ≡ graph_length
    first_room = length-set new (next_place + e) (get_or new (first_place + node) 0) ∙ l.room

    -- what neither store touches
    untouched : (j : ℕ) → (j ≡ next_place + e → ⊥) → (j ≡ first_place + node → ⊥) → get_or (set first (first_place + node) e) j 0 ≡ get_or new j 0
    untouched j a b =
        get_or-set_other first (first_place + node) j e 0 b ∙ get_or-set_other new (next_place + e) j (get_or new (first_place + node) 0) 0 a

    lowest_more : (m : ℕ) → m < 129 → get_or (set first (first_place + node) e) (first_place + m) 0 ≡ lowest_from (n - e) (source_in old) e m
    lowest_more m k =
        elim (ℕ_discrete m node) [
          | yes p ↦
              ap (λ (j : ℕ). get_or (set first (first_place + node) e) (first_place + j) 0) p ∙ get_or-set_same first (first_place + node) e 0 (omega (arith, first_room))
              ∙ sym (ap (λ (j : ℕ). lowest_from j (source_in old) e m) one_more ∙ lowest_here (source_in old) (n - suc e) e m (sym p))
          | no d ↦
              untouched (first_place + m) (λ q. omega arith) (λ q. d (omega arith)) ∙ l.lowest m k
              ∙ sym (ap (λ (j : ℕ). lowest_from j (source_in old) e m) one_more ∙ lowest_beyond (source_in old) (n - suc e) e m (λ q. d (sym q)))
        ]

    later_more : (f : ℕ) → e ≤ f → f < n → get_or (set first (first_place + node) e) (next_place + f) 0 ≡ lowest_from (n - suc f) (source_in old) (suc f) (source_in old f)
    later_more f a b =
        elim (ℕ_discrete f e) [
          | yes p ↦
              ap (λ (j : ℕ). get_or (set first (first_place + node) e) (next_place + j) 0) p
              ∙ get_or-set_other first (first_place + node) (next_place + e) e 0 (λ q. omega arith)
              ∙ get_or-set_same new (next_place + e) _ 0 (omega (arith, l.room)) ∙ l.lowest node inside
              ∙ sym (ap (λ (j : ℕ). lowest_from (n - suc j) (source_in old) (suc j) (source_in old j)) p)
          | no d ↦ untouched (next_place + f) (λ q. d (omega arith)) (λ q. omega arith) ∙ l.later f (omega arith) b
        ]

    same_more : SameButLinks old (set first (first_place + node) e)
    same_more =
        record {
          before = λ i p. untouched i (λ q. omega arith) (λ q. omega arith) ∙ l.same.before i p;
          after = λ i p. untouched i (λ q. omega arith) (λ q. omega arith) ∙ l.same.after i p;
        }

    pub held_more : Held old e (linked_one new e (source_in new e))
    unfolding linked_one
    held_more =
        rw (source_same l.same e)
        record { room = length-set first (first_place + node) e ∙ first_room; same = same_more; lowest = lowest_more; later = later_more }

  -- all edges linked
  pub held_all : n ≤ 255 → (older new : List ℕ) → SameButLinks older old → Held old 0 new → LinkedFrom older new
  unfolding first_in next_in
  held_all few older new earlier l =
      let sources : source_in new ≡ source_in old = λ i e. source_same l.same e i in
      let count = edges_same l.same in
      let all : n - 0 ≡ n = omega arith in
      record {
        same = same_then l.same older earlier;
        linked = record {
          few = omega arith;
          lowest = λ node h. rw (lt-ltb node 129 h, sources, count) (l.lowest node h ∙ rw all);
          later = λ e h. rw (lt-ltb e 255 (omega arith), sources, count) (l.later e (omega arith) (omega arith));
        };
      }

-- a prepared graph can be linked, and stays prepared
module _ {ns : List ℕ} {g : Graph} {code : List ℕ} where
  pub prepared_linkable : {graph : List ℕ} → Prepared ns g code graph → Linkable graph
  prepared_linkable p =
      record {
        few = omega (arith, p.edges, p.few_edges);
        inside = λ e h. let there = p.edge e (omega (arith, p.edges)) in omega (arith, there.source, there.from, p.few_nodes);
      }

  edge_kept : {old new : List ℕ} → SameButLinks old new → (e : ℕ) → PreparedEdge ns g code old e → PreparedEdge ns g code new e
  edge_kept {old} {new} same e p =
      record {
        source = source_same same e ∙ p.source;
        target = target_same same e ∙ p.target;
        from = p.from;
        to = p.to;
        action = rw (same_entries code old new (λ i h. same.before i (omega arith)), action_same same e) p.action;
        named = p.named;
        guard = rw (action_same same e) p.guard;
        follows = p.follows;
      }

  pub prepared_kept : {old new : List ℕ} → SameButLinks old new → Prepared ns g code old → Prepared ns g code new
  prepared_kept same p =
      record {
        coded = p.coded;
        few_nodes = p.few_nodes;
        few_edges = p.few_edges;
        nodes = same.after node_count_place (omega arith) ∙ p.nodes;
        edges = edges_same same ∙ p.edges;
        edge = λ e h. edge_kept same e (p.edge e h);
      }
