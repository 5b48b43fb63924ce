-- A well-formed program has at most 129 nodes and 255 edges: its tree has as many commands as its table, since each entry but the last is used once.
use Rattle.std.specs.Prelude.{Ok}
use mathlib.Core.Path.{◌≡◌, refl, sym, ◌∙◌, ap}
use mathlib.Core.Bool.{Bool, cond}
use mathlib.Core.List.{List, [], ◌∷◌, ◌++◌}
use Prim.Native.Nat.{ℕ, zero, suc, ◌+◌, ◌*◌, ◌≤◌, ◌<◌}
use native.Mathlib.Nat.{zero-mul, one-mul, add-mul}
use native.Mathlib.Omega.{arith}
use lib.ListN.{length, length-append}
use Rattle.program.specs.File.{entry_count, entry}
use Rattle.program.specs.Graph.{leave, edge, Around, within, past, guards, part, graph, edges, edge_count, node_count}
use Rattle.program.specs.Kind.{Role, Unused, Half, Variable, Array, To, Shape, Unknown, Known, kinds, shape, table_of, command_kind}
use Rattle.program.specs.Questions.{same_table, limit, refers_to, shape_uses, entry_uses, table_uses, uses, validity}
use Rattle.program.specs.Parts.Sorted.{command_size}
use Rattle.program.specs.Syntax.{Command}
use Rattle.program.specs.Tree.{command_node, command_trees, command_at, last_command, script, command_made}
use Rattle.program.specs.declared.Construction.{Construction}
use Rattle.program.specs.declared.Entry.{Entry}
use Rattle.program.specs.declared.Sort.TheVariants.{Expression, Condition, Command as Commanding, Guarded}
use Rattle.program.specs.declared.Table.{Table}
use Rattle.program.specs.declared.Table.TheVariants.{Arithmetic, Boolean as Booleans, Commands}
use Rattle.program.proofs.Fit.{counts, one_last, used_once}
use Rattle.program.proofs.Induction.{by_kind, by_command}
use Rattle.program.proofs.Made.{Made, make_skip, make_assign, make_store, make_sequence, make_conditional, make_iteration, make_guarded, make_choice, make_jump}
use Rattle.program.proofs.Operands.{Operand, Operands, operands_fit}
use Rattle.program.proofs.Sorting.{script_made}
use Rattle.program.proofs.Sums.{total, total_same, total_zero, total_one_more, total_add, total_mul, exchange, once}
use Rattle.program.proofs.Trees.{command_below_lem}

-- what a command's edges and fresh nodes are bounded by, where a guarded command has nothing to spare
record Bounded (κ : Construction) (spare : ℕ) (o : Around) (c : Command) (a b n : ℕ) : Type 0 where
  edges_bounded : length (part κ o c a b n).edges + 2 * n ≤ 2 * (part κ o c a b n).fresh + spare
  nodes_bounded : 2 * (part κ o c a b n).fresh + spare ≤ 2 * n + command_size c

bounded : {s : List ℕ} {g : Bool} {k : ℕ} {c : Command} → Made s g k c → (κ : Construction) (o : Around) (a b n : ℕ) → Bounded κ (cond g 0 1) o c a b n
unfolding part command_size
bounded (make_skip e) κ o a b n = omega arith
bounded (make_assign e x v) κ o a b n = omega arith
bounded (make_store e x i v) κ o a b n = omega arith
bounded (make_sequence {c = x} {d = y} e l m c d) κ o a b n =
    let first = bounded c κ o a n (n + 1) in
    let second = bounded d κ o n b (part κ o x a n (n + 1)).fresh in
    let joined = length-append (part κ o x a n (n + 1)).edges (part κ o y n b (part κ o x a n (n + 1)).fresh).edges in
    omega arith
bounded (make_conditional e l c) κ o a b n = let body = bounded c κ (past o []) a b n in omega arith
bounded (make_iteration {c = x} e l c) κ o a b n =
    let body = bounded c κ (within a b) a a n in
    omega (arith, length-append (part κ (within a b) x a a n).edges (edge a (leave x) b ∷ []))
bounded (make_guarded e h l c) κ o a b n = let body = bounded c κ o n b (n + 1) in omega arith
bounded (make_choice {c = x} {d = y} e l m c d) κ o a b n =
    let first = bounded c κ o a b n in
    let second = bounded d κ (past o (o.earlier ++ guards x)) a b (part κ o x a b n).fresh in
    let joined = length-append (part κ o x a b n).edges (part κ (past o (o.earlier ++ guards x)) y a b (part κ o x a b n).fresh).edges in
    omega arith
bounded (make_jump e) κ o a b n = omega arith

-- an entry of the first two tables refers to no command
no_arith_use : (r k : ℕ) (e : Entry) → shape_uses Commands r (shape Arithmetic k) e ≡ 0
unfolding shape kinds shape_uses refers_to table_of same_table
no_arith_use r = by_kind _ (λ e. refl) (λ e. refl) (λ e. refl) (λ e. refl) (λ e. refl) (λ e. refl) (λ e. refl) (λ e. refl) (λ k e. refl)

no_boolean_use : (r k : ℕ) (e : Entry) → shape_uses Commands r (shape Booleans k) e ≡ 0
unfolding shape kinds shape_uses refers_to table_of same_table
no_boolean_use r = by_kind _ (λ e. refl) (λ e. refl) (λ e. refl) (λ e. refl) (λ e. refl) (λ e. refl) (λ e. refl) (λ e. refl) (λ k e. refl)

module _ (s : List ℕ) where
  -- the size at an entry
  size : ℕ → ℕ
  size n = command_size (command_at (entry s) n)

  -- what an operand, and an entry, has below it
  weight : Role → ℕ → ℕ
  weight Unused x = 0
  weight Half x = 0
  weight Variable x = 0
  weight Array x = 0
  weight (To Expression) x = 0
  weight (To Condition) x = 0
  weight (To Commanding) x = size x
  weight (To Guarded) x = size x

  weights : Shape → Entry → ℕ
  weights Unknown e = 0
  weights (Known x) e = weight x.p e.p + weight x.q e.q + weight x.r e.r

  -- uses in a table are a sum
  table_uses_total : (u : Table) (n : ℕ) (t : Table) (k : ℕ) → table_uses s u n t k ≡ total (entry_uses s u n t) k
  unfolding table_uses total
  table_uses_total u n t zero = refl
  table_uses_total u n t (suc k) = ap (λ x. x + entry_uses s u n t k) (table_uses_total u n t k)

  none_counted : (l : ℕ) → total (λ r. 0 * size r) l ≡ 0
  none_counted l = total_zero _ l (λ r i. zero-mul (size r))

  -- summed over the entries up to l, the sizes of those that an operand of entry n refers to
  operand_weight : (n l : ℕ) → n ≤ l → (role : Role) (x : ℕ) → Operand s Commands n role x → total (λ r. refers_to Commands r role x * size r) l ≡ weight role x
  unfolding refers_to table_of same_table limit weight
  operand_weight n l h Unused x o = none_counted l
  operand_weight n l h Half x o = none_counted l
  operand_weight n l h Variable x o = none_counted l
  operand_weight n l h Array x o = none_counted l
  operand_weight n l h (To Expression) x o = none_counted l
  operand_weight n l h (To Condition) x o = none_counted l
  operand_weight n l h (To Commanding) x o = once size x l (omega (arith, o.lower))
  operand_weight n l h (To Guarded) x o = once size x l (omega (arith, o.lower))

  entry_weight : (n l : ℕ) → n ≤ l → (x : Shape) (e : Entry) → Operands s Commands n x e → total (λ r. shape_uses Commands r x e * size r) l ≡ weights x e
  unfolding shape_uses weights
  entry_weight n l h Unknown e o = absurd o
  entry_weight n l h (Known x) e o =
      simp (add-mul, total_add)
      (omega (arith, operand_weight n l h x.p e.p o.0, operand_weight n l h x.q e.q o.1, operand_weight n l h x.r e.r o.2))

  -- a command's size: one more than what it has below it
  node_size : (n k p q r : ℕ) → Operands s Commands n (shape Commands k) (record { kind = k; p = p; q = q; r = r })
      → command_size (command_node (entry s) (command_trees (entry s) n) n (record { kind = k; p = p; q = q; r = r })) ≡ 1 + weights (shape Commands k) (record { kind = k; p = p; q = q; r = r })
  unfolding shape kinds limit same_table table_of command_kind command_made command_size size weight weights
  node_size n =
      by_command _
      (λ p q r h. refl)
      (λ p q r h. refl)
      (λ p q r h. refl)
      (λ p q r h. rw (command_below_lem (entry s) n p h.0.lower, command_below_lem (entry s) n q h.1.lower) (omega arith))
      (λ p q r h. rw (command_below_lem (entry s) n p h.0.lower) (omega arith))
      (λ p q r h. rw (command_below_lem (entry s) n p h.0.lower) (omega arith))
      (λ p q r h. rw (command_below_lem (entry s) n q h.1.lower) (omega arith))
      (λ p q r h. rw (command_below_lem (entry s) n p h.0.lower, command_below_lem (entry s) n q h.1.lower) (omega arith))
      (λ p q r h. refl)
      (λ p q r h. refl)
      (λ k p q r h. absurd h)

  module _ (fit : validity s ≡ Ok tt) where
    -- an entry's size, by how often it refers to those before the last
    sized : (n : ℕ) → n < entry_count s Commands → size n ≡ 1 + total (λ r. entry_uses s Commands r Commands n * size r) (last_command s)
    unfolding size command_at entry_uses last_command
    sized n h =
        let known = operands_fit s fit Commands n h in
        node_size n _ _ _ _ known ∙ ap (λ x. 1 + x) (sym (entry_weight n (last_command s) (omega arith) _ _ known))

    -- a command before the last is used once, by a command
    used_by_commands : (r : ℕ) → r < last_command s → total (entry_uses s Commands r Commands) (entry_count s Commands) ≡ 1
    unfolding uses entry_uses
    used_by_commands r h =
        omega (
          arith,
          used_once s fit r h,
          table_uses_total Commands r Arithmetic (entry_count s Arithmetic),
          table_uses_total Commands r Booleans (entry_count s Booleans),
          table_uses_total Commands r Commands (entry_count s Commands),
          total_zero (entry_uses s Commands r Arithmetic) (entry_count s Arithmetic) (λ n l. no_arith_use r _ _),
          total_zero (entry_uses s Commands r Booleans) (entry_count s Booleans) (λ n l. no_boolean_use r _ _),
        )

    -- so the sizes of all commands are their number and the sizes of all but the last
    all_sizes : total size (entry_count s Commands) ≡ entry_count s Commands + total size (last_command s)
    all_sizes =
        total_same _ _ _ sized
        ∙ total_one_more _ _
        ∙ ap (λ x. entry_count s Commands + x)
        (exchange _ _ _
        ∙ total_same _ _ _ (λ r h. total_mul (entry_uses s Commands r Commands) (size r) _ ∙ ap (λ x. x * size r) (used_by_commands r h) ∙ one-mul (size r)))

    -- "the tree's size is the table's"
    pub script_size : command_size (script s) ≡ entry_count s Commands
    unfolding script size total
    script_size = omega (arith, all_sizes, ap (total size) (one_last s fit))

    script_bounded : (κ : Construction) → Bounded κ 1 (within 0 1) (script s) 0 1 2
    script_bounded κ = bounded (script_made s fit) κ (within 0 1) 0 1 2

    -- "There are at most 129 nodes and 255 arrows."
    pub few_nodes : (κ : Construction) → node_count κ s ≤ 129
    unfolding node_count graph
    few_nodes κ = omega (arith, script_bounded κ, script_size, (counts s fit).commands)

    pub few_edges : (κ : Construction) → edge_count κ s ≤ 255
    unfolding edge_count edges graph
    few_edges κ = omega (arith, script_bounded κ, script_size, (counts s fit).commands)
