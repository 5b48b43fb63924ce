-- The graphs of two constructions match edge by edge: what is made of each edge is the same, where it is the same of the guards' edges whatever the earlier guards.
use mathlib.Core.Path.{◌≡◌, refl, ◌∙◌, ap, sym}
use mathlib.Core.List.{List, [], ◌∷◌, ◌++◌, map, flat_map}
use mathlib.Core.Bool.{false}
use Prim.Native.Nat.{ℕ, ◌+◌, ◌<◌}
use Rattle.program.specs.Graph.{perform, leave, Edge, edge, Part, Around, within, past, landing, guards, guard_action, part, edge_at, graph, edges, edge_count}
use Rattle.program.specs.Parts.Preceding.{is_test, plain, plain_edge, plain_graph}
use Rattle.program.specs.Syntax.{Boolean, Command, skip, assign, store, sequence, conditional, iteration, guarded, choice, jump}
use Rattle.program.specs.Tree.{script}
use Rattle.program.specs.declared.Construction.{Construction}
use Rattle.program.specs.declared.Construction.TheVariants.{Nondeterministic, Deterministic}
use Rattle.program.specs.declared.Jump.{Jump}
use Rattle.program.specs.declared.Jump.TheVariants.{Break, Continue}
use Rattle.program.proofs.Lists.{concat_append, Each, none, more, each_append, each_at}

-- two parts of graphs: the same fresh node, and what is made of the edges in turn is the same
pub record Matched {X : Type 0} (f g : Edge → List X) (p q : Part) : Type 0 where
  pub fresh : p.fresh ≡ q.fresh
  pub made : flat_map f p.edges ≡ flat_map g q.edges

-- a jump goes to the same node, whatever the earlier guards
landing_past : (first last : ℕ) (gs hs : List Boolean) (j : Jump) → landing (past (within first last) gs) j ≡ landing (past (within first last) hs) j
unfolding landing
landing_past first last gs hs Break = refl
landing_past first last gs hs Continue = refl

module _ {X : Type 0} (f g : Edge → List X) (κ ι : Construction)
    (guard : (a n k : ℕ) (gs hs : List Boolean) (b : Boolean) → f (edge a (guard_action κ gs k b) n) ≡ g (edge a (guard_action ι hs k b) n))
    (performed : (a b : ℕ) (c : Command) → f (edge a (perform c) b) ≡ g (edge a (perform c) b))
    (left : (a b : ℕ) (c : Command) → f (edge a (leave c) b) ≡ g (edge a (leave c) b)) where
  -- one edge
  one : {x y : Edge} (n : ℕ) → f x ≡ g y → Matched f g (record { edges = x ∷ []; fresh = n }) (record { edges = y ∷ []; fresh = n })
  unfolding flat_map
  one n e = record { fresh = refl; made = rw e }

  -- two parts, the second from the fresh node that the first comes to
  two : {p q : Part} {r t : ℕ → Part} → Matched f g p q → ((n : ℕ) → Matched f g (r n) (t n))
      → Matched f g (record { edges = p.edges ++ (r p.fresh).edges; fresh = (r p.fresh).fresh }) (record { edges = q.edges ++ (t q.fresh).edges; fresh = (t q.fresh).fresh })
  two {p} {q} {r} {t} m k =
      record {
        fresh = ap (λ n. (r n).fresh) m.fresh ∙ (k q.fresh).fresh;
        made =
            concat_append f p.edges (r p.fresh).edges
            ∙ ap (λ (x : List X). x ++ flat_map f (r p.fresh).edges) m.made
            ∙ ap (λ (x : List X). flat_map g q.edges ++ x) (ap (λ n. flat_map f (r n).edges) m.fresh ∙ (k q.fresh).made)
            ∙ sym (concat_append g q.edges (t q.fresh).edges);
      }

  pub matched : (c : Command) (first last : ℕ) (gs hs : List Boolean) (a b n : ℕ) → Matched f g (part κ (past (within first last) gs) c a b n) (part ι (past (within first last) hs) c a b n)
  unfolding part flat_map
  matched (skip k) u v gs hs a b n = one n (performed a b (skip k))
  matched (assign k x e) u v gs hs a b n = one n (performed a b (assign k x e))
  matched (store k x i e) u v gs hs a b n = one n (performed a b (store k x i e))
  matched (sequence k c d) u v gs hs a b n = two (matched c u v gs hs a n (n + 1)) (λ m. matched d u v gs hs n b m)
  matched (conditional k c) u v gs hs a b n = matched c u v [] [] a b n
  matched (iteration k c) u v gs hs a b n = two (matched c a b [] [] a a n) (λ m. one m (left a b c))
  matched (guarded k x c) u v gs hs a b n =
      let body = matched c u v gs hs n b (n + 1) in
      record { fresh = body.fresh; made = rw (guard a n k gs hs x, body.made) }
  matched (choice k c d) u v gs hs a b n = two (matched c u v gs hs a b n) (λ m. matched d u v (gs ++ guards c) (hs ++ guards c) a b m)
  matched (jump k j) u v gs hs a b n = one n (performed a (landing (past (within u v) gs) j) (jump k j) ∙ ap (λ m. g (edge a (perform (jump k j)) m)) (landing_past u v gs hs j))

-- ---- without their earlier guards, the edges are those of document 01's construction

each_one : {A : Type 0} (xs : List A) → flat_map (λ x. x ∷ []) xs ≡ xs
unfolding flat_map
each_one [] = refl
each_one (x ∷ xs) = ap (λ ys. x ∷ ys) (each_one xs)

map_one : {A B : Type 0} (f : A → B) (xs : List A) → map f xs ≡ flat_map (λ x. f x ∷ []) xs
unfolding flat_map
map_one f [] = refl
map_one f (x ∷ xs) = ap (λ ys. f x ∷ ys) (map_one f xs)

plain_guard : (κ : Construction) (k : ℕ) (gs hs : List Boolean) (b : Boolean) → plain (guard_action κ gs k b) ≡ guard_action Nondeterministic hs k b
unfolding plain guard_action
plain_guard Nondeterministic k gs hs b = refl
plain_guard Deterministic k gs hs b = refl

plain_part : (κ : Construction) (c : Command) (first last a b n : ℕ)
    → Matched (λ e. plain_edge e ∷ []) (λ e. e ∷ []) (part κ (within first last) c a b n) (part Nondeterministic (within first last) c a b n)
unfolding plain_edge plain
plain_part κ c first last a b n =
    matched (λ e. plain_edge e ∷ []) (λ e. e ∷ []) κ Nondeterministic
    (λ a m k gs hs b. ap (λ x. edge a x m ∷ []) (plain_guard κ k gs hs b)) (λ a b c. refl) (λ a b c. refl)
    c first last [] [] a b n

-- sources, targets and counts are the same; actions are the same, or a guard's with the same guard
pub plain_graph_lem : (κ : Construction) (s : List ℕ) → plain_graph (graph κ s) ≡ graph Nondeterministic s
unfolding plain_graph graph
plain_graph_lem κ s =
    let m = plain_part κ (script s) 0 1 0 1 2 in
    λ i.
    record {
      edges = (map_one plain_edge (part κ (within 0 1) (script s) 0 1 2).edges ∙ m.made ∙ each_one (part Nondeterministic (within 0 1) (script s) 0 1 2).edges) i;
      nodes = m.fresh i;
    }

-- ---- no edge of the deterministic graph is a guard's of the other

abbrev Untested : Edge → Type 0
Untested e = is_test e.action ≡ false

selects_only : (o : Around) (c : Command) (a b n : ℕ) → Each Untested (part Deterministic o c a b n).edges
unfolding part guard_action is_test
selects_only o (skip k) a b n = more refl none
selects_only o (assign k x e) a b n = more refl none
selects_only o (store k x i e) a b n = more refl none
selects_only o (sequence k c d) a b n = each_append (selects_only o c a n (n + 1)) (selects_only o d n b (part Deterministic o c a n (n + 1)).fresh)
selects_only o (conditional k c) a b n = selects_only (past o []) c a b n
selects_only o (iteration k c) a b n = each_append (selects_only (within a b) c a a n) (more refl none)
selects_only o (guarded k g c) a b n = more refl (selects_only o c n b (n + 1))
selects_only o (choice k c d) a b n = each_append (selects_only o c a b n) (selects_only (past o (o.earlier ++ guards c)) d a b (part Deterministic o c a b n).fresh)
selects_only o (jump k j) a b n = more refl none

pub untested : (s : List ℕ) (e : ℕ) → e < edge_count Deterministic s → is_test (edge_at (graph Deterministic s) e).action ≡ false
unfolding edge_count edges graph edge_at
untested s e h = each_at e _ (selects_only (within 0 1) (script s) 0 1 2) h
