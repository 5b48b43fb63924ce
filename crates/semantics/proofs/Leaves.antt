-- What an arithmetic entry of ordered code is, the tree that stands there, and the cell of a leaf.
use Rattle.std.specs.Prelude.{Ok}
use mathlib.Core.Path.{◌≡◌, refl, sym, ap, subst, ◌∙◌}
use mathlib.Core.List.{List}
use Prim.Native.Nat.{ℕ, ◌+◌, ◌*◌, ◌≤◌, ◌<◌}
use native.Mathlib.Decide.{dec_le}
use native.Mathlib.Omega.{arith}
use borrow.Author.Tests.{lt-ltb, le-ltb}
use lib.Dec.{T}
use lib.IntN.{ℤ, pos}
use lib.ListN.{get_or}
use Rattle.signs.specs.declared.Operator.{Operator as Sign}
use Rattle.program.specs.File.{signed32}
use Rattle.program.specs.Kind.{arith_kind}
use Rattle.program.specs.Parts.Node.{arith_tree}
use Rattle.program.specs.Parts.Prepared.{arithmetic_count_place, entries_in, arith_in, number_of, leaf_cell, Lower, Ordered, Coded}
use Rattle.program.specs.Parts.Sorted.{arith_named}
use Rattle.program.specs.Syntax.{Arith, number, element, operator}
use Rattle.program.specs.Tree.{arith_at, arith_made}
use Rattle.program.specs.declared.ArithNode.{ArithNode}
use Rattle.program.specs.declared.ArithNode.TheVariants.{Number as NumberNode, Variable, Element, Operator}
use Rattle.program.proofs.Laws.{arith_below_lem}
use Rattle.program.proofs.Readings.{number_told}
use Rattle.semantics.specs.Parts.Cells.{Loaded}
use Rattle.semantics.specs.Expression.{cell_value, value}

-- a tree whose value is that of a cell, wherever the code's numbers are behind the memory
abbrev pub CellOf : List ℕ → Arith → ℕ → Type 0
CellOf code a c = (ns : List ℕ) (m : List ℤ) → Loaded ns code m → T (arith_named ns a) → value ns m a ≡ Ok (cell_value m c)

-- entry n, where code has asked what it is, and was told
module _ (code : List ℕ) (n : ℕ) where
  pub below_most : Ordered code → n < get_or code arithmetic_count_place 0 → n < 512
  below_most o h = omega (arith, o.few)

  pub lower_told : Ordered code → n < get_or code arithmetic_count_place 0 → {x k : ArithNode} → x ≡ arith_in code n → x ≡ k → Lower n k
  lower_told o h e told = subst (Lower n) (sym e ∙ told) (o.lower n h)

  module _ (graph : List ℕ) where
    -- the tree that stands there
    pub node_tree : n < 512 → {x k : ArithNode} → x ≡ arith_in code n → x ≡ k → arith_at (entries_in code graph) n ≡ arith_tree (entries_in code graph) n k
    unfolding arith_at entries_in arith_in
    node_tree h e told = rw (lt-ltb n 512 h) (ap (arith_tree (entries_in code graph) n) (sym e ∙ told))

    pub element_tree : Ordered code → n < get_or code arithmetic_count_place 0 → {x : ArithNode} {y i : ℕ} → x ≡ arith_in code n → x ≡ Element y i
        → arith_at (entries_in code graph) n ≡ element n y (arith_at (entries_in code graph) i)
    unfolding arith_made
    element_tree o h {y = y} {i = i} e told = node_tree (below_most o h) e told ∙ ap (element n y) (arith_below_lem (entries_in code graph) n i (lower_told o h e told))

    pub operator_tree : Ordered code → n < get_or code arithmetic_count_place 0 → {x : ArithNode} {s : Sign} {p q : ℕ} → x ≡ arith_in code n → x ≡ Operator s p q
        → arith_at (entries_in code graph) n ≡ operator n s (arith_at (entries_in code graph) p) (arith_at (entries_in code graph) q)
    unfolding arith_made
    operator_tree o h {s = s} {p = p} {q = q} e told =
        let parts = lower_told o h e told in
        rw (node_tree (below_most o h) e told, arith_below_lem (entries_in code graph) n p parts.0, arith_below_lem (entries_in code graph) n q parts.1)

    -- past the last entry it is the number 0
    pub past_tree : {ns : List ℕ} → Coded ns code → get_or code arithmetic_count_place 0 ≤ n → arith_at (entries_in code graph) n ≡ number n (pos 0)
    unfolding arith_at entries_in arith_kind arith_made signed32
    past_tree c l =
        elim (dec_le 512 n) [
          | yes h ↦ rw (le-ltb n 512 h)
          | no h ↦ rw (lt-ltb n 512 (omega arith), c.past n l (omega arith))
        ]

    -- an entry with a cell is a leaf
    pub leaf_tree : n < get_or code arithmetic_count_place 0 → {c : ℕ} → c ≡ get_or code (4 * n + 3) 0 → c < 1024 → CellOf code (arith_at (entries_in code graph) n) c
    unfolding value leaf_cell number_of arith_made
    leaf_tree h {c} e small ns m l t = by (arith_in code n) refl
      where
        few : n < 512
        few = below_most l.coded.ordered h

        by : (k : ArithNode) → arith_in code n ≡ k → value ns m (arith_at (entries_in code graph) n) ≡ Ok (cell_value m c)
        by (NumberNode z) told =
            rw (node_tree few refl told) (ap Ok (sym (number_told code n few refl told) ∙ sym (l.numbers.number n few) ∙ ap (cell_value m) (sym (rw told at (e ∙ l.coded.leaf n h)))))
        by (Variable x) told = rw (node_tree few refl told) (ap (λ (k : ℕ). Ok (cell_value m k)) (sym (rw told at (e ∙ l.coded.leaf n h))))
        by (Element x i) told = absurd (omega (arith, rw told at (e ∙ l.coded.leaf n h)))
        by (Operator o p q) told = absurd (omega (arith, rw told at (e ∙ l.coded.leaf n h)))
