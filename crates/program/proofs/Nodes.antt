-- Edges leave and enter nodes of the graph, and no edge leaves the end node (book, Proposition 2.12).
use mathlib.Core.Logic.{◌≢◌}
use mathlib.Core.List.{List, [], ◌++◌}
use Prim.Native.Nat.{ℕ, ◌+◌, ◌≤◌, ◌<◌}
use native.Mathlib.Nat.{le_refl}
use native.Mathlib.Omega.{arith}
use lib.ListN.{get_or}
use Rattle.program.specs.Graph.{Action, Edge, edge, Around, within, past, landing, guards, part, graph, edges, edge_count, node_count}
use Rattle.program.specs.Syntax.{Command, skip, assign, store, sequence, conditional, iteration, guarded, choice, jump}
use Rattle.program.specs.Tree.{script}
use Rattle.program.specs.declared.Construction.{Construction}
use Rattle.program.specs.declared.Jump.{Jump}
use Rattle.program.specs.declared.Jump.TheVariants.{Break, Continue}
use Rattle.program.proofs.Lists.{Each, none, more, each_append, each_at}

-- what holds of an edge in a graph of so many nodes
pub record Inside (nodes : ℕ) (e : Edge) : Type 0 where
  pub source_inside : e.source < nodes
  pub target_inside : e.target < nodes
  pub source_not_end : e.source ≢ 1

inside : {nodes a b : ℕ} {x : Action} → a < nodes → b < nodes → a ≢ 1 → Inside nodes (edge a x b)
inside ha hb na = record { source_inside = ha; target_inside = hb; source_not_end = na }

-- a jump goes to a node of the graph, where the loop around it has its nodes there
landing_inside : (nodes : ℕ) (o : Around) (j : Jump) → o.first < nodes → o.last < nodes → landing o j < nodes
unfolding landing
landing_inside m o Break hf hl = hl
landing_inside m o Continue hf hl = hf

-- nodes are made, never unmade
pub fresh_grows : (κ : Construction) (o : Around) (c : Command) (a b n : ℕ) → n ≤ (part κ o c a b n).fresh
unfolding part
fresh_grows κ o (skip k) a b n = omega arith
fresh_grows κ o (assign k x e) a b n = omega arith
fresh_grows κ o (store k x i e) a b n = omega arith
fresh_grows κ o (sequence k c d) a b n = omega (arith, fresh_grows κ o c a n (n + 1), fresh_grows κ o d n b (part κ o c a n (n + 1)).fresh)
fresh_grows κ o (conditional k c) a b n = fresh_grows κ (past o []) c a b n
fresh_grows κ o (iteration k c) a b n = fresh_grows κ (within a b) c a a n
fresh_grows κ o (guarded k g c) a b n = omega (arith, fresh_grows κ o c n b (n + 1))
fresh_grows κ o (choice k c d) a b n = omega (arith, fresh_grows κ o c a b n, fresh_grows κ (past o (o.earlier ++ guards c)) d a b (part κ o c a b n).fresh)
fresh_grows κ o (jump k j) a b n = omega arith

-- a command's edges between two nodes of the graph, in a loop between two of them, stay inside it, for as many nodes as it makes
part_inside : (κ : Construction) (nodes : ℕ) (o : Around) → o.first < nodes → o.last < nodes → (c : Command) (a b n : ℕ) → a < nodes → a ≢ 1 → b < nodes → 2 ≤ n
    → (part κ o c a b n).fresh ≤ nodes → Each (Inside nodes) (part κ o c a b n).edges
unfolding part
part_inside κ m o of ol (skip k) a b n ha na hb hn hf = more (inside ha hb na) none
part_inside κ m o of ol (assign k x e) a b n ha na hb hn hf = more (inside ha hb na) none
part_inside κ m o of ol (store k x i e) a b n ha na hb hn hf = more (inside ha hb na) none
part_inside κ m o of ol (sequence k c d) a b n ha na hb hn hf =
    let grows = fresh_grows κ o c a n (n + 1) in
    let grows-more = fresh_grows κ o d n b (part κ o c a n (n + 1)).fresh in
    each_append
    (part_inside κ m o of ol c a n (n + 1) ha na (omega arith) (omega arith) (omega arith))
    (part_inside κ m o of ol d n b _ (omega arith) (omega arith) hb (omega arith) hf)
part_inside κ m o of ol (conditional k c) a b n ha na hb hn hf = part_inside κ m (past o []) of ol c a b n ha na hb hn hf
part_inside κ m o of ol (iteration k c) a b n ha na hb hn hf =
    each_append (part_inside κ m (within a b) ha hb c a a n ha na ha hn hf) (more (inside ha hb na) none)
part_inside κ m o of ol (guarded k g c) a b n ha na hb hn hf =
    let grows = fresh_grows κ o c n b (n + 1) in
    let hn' : n < m = omega arith in
    more (inside ha hn' na) (part_inside κ m o of ol c n b (n + 1) hn' (omega arith) hb (omega arith) hf)
part_inside κ m o of ol (choice k c d) a b n ha na hb hn hf =
    let grows = fresh_grows κ o c a b n in
    let grows-more = fresh_grows κ (past o (o.earlier ++ guards c)) d a b (part κ o c a b n).fresh in
    each_append
    (part_inside κ m o of ol c a b n ha na hb hn (omega arith))
    (part_inside κ m (past o (o.earlier ++ guards c)) of ol d a b _ ha na hb (omega arith) hf)
part_inside κ m o of ol (jump k j) a b n ha na hb hn hf = more (inside ha (landing_inside m o j of ol) na) none

module _ (κ : Construction) (s : List ℕ) where
  -- the start and the end are nodes
  pub two_nodes : 2 ≤ node_count κ s
  unfolding node_count graph
  two_nodes = fresh_grows κ (within 0 1) _ 0 1 2

  -- "no edge leaves the end node": of all edges, and at an index
  pub edges_inside : Each (Inside (node_count κ s)) (edges κ s)
  unfolding node_count edges graph
  edges_inside =
      let two = two_nodes in
      part_inside κ (node_count κ s) (within 0 1) (omega arith) (omega arith) (script s) 0 1 2 (omega arith) (omega arith) (omega arith) (omega arith) (le_refl (node_count κ s))

  pub edge_inside : (k : ℕ) (d : Edge) → k < edge_count κ s → Inside (node_count κ s) (get_or (edges κ s) k d)
  unfolding edge_count
  edge_inside k d h = each_at k d edges_inside h
