-- The expressions of a well-formed program are well sorted: their names and references are as questions 8 and 9 ask.
use Rattle.std.specs.Prelude.{Ok}
use mathlib.Core.Path.{◌≡◌, refl}
use mathlib.Core.Bool.{true, ◌&&◌}
use mathlib.Core.List.{List}
use Prim.Native.Nat.{ℕ, ◌<◌}
use native.Mathlib.Omega.{arith}
use lib.Dec.{eqb, ltb}
use lib.ListN.{length, get_or}
use borrow.Author.Tests.{lt-ltb, ltb-true}
use Rattle.program.specs.File.{name_count, sizes, entry_count, entry, is_variable}
use Rattle.program.specs.Kind.{kinds, shape, table_of, arith_kind, boolean_kind}
use Rattle.program.specs.Parts.Prepared.{Lower}
use Rattle.program.specs.Questions.{same_table, limit, validity}
use Rattle.program.specs.Parts.Sorted.{arith_named, boolean_named, arith_points, boolean_points, arith_entry}
use Rattle.program.specs.Syntax.{Arith, Boolean, boolean_entry}
use Rattle.program.specs.Tree.{arith_below, arith_node, arith_trees, arith_at, boolean_below, boolean_node, boolean_trees, boolean_at, arith_made, boolean_made}
use Rattle.program.specs.declared.ArithNode.{ArithNode}
use Rattle.program.specs.declared.ArithNode.TheVariants.{Number, Variable, Element, Operator}
use Rattle.program.specs.declared.Sort.TheVariants.{Expression, Condition}
use Rattle.program.specs.declared.Table.TheVariants.{Arithmetic, Boolean as Booleans}
use Rattle.program.proofs.Cells.{sizes_length}
use Rattle.program.proofs.Induction.{from_below, by_kind}
use Rattle.program.proofs.Operands.{Reference, Operands, operands_fit}
use Rattle.program.proofs.Tests.{two, both}
use Rattle.program.proofs.Trees.{arith_below_lem, arith_entry_lem, boolean_below_lem, boolean_entry_lem}

-- names that are there and of the right sort, and references that point as they must
pub record ArithSorted (ns : List ℕ) (a : Arith) : Type 0 where
  pub named : arith_named ns a ≡ true
  pub points : arith_points a ≡ true

pub record BooleanSorted (ns : List ℕ) (b : Boolean) : Type 0 where
  pub named : boolean_named ns b ≡ true
  pub points : boolean_points b ≡ true

-- arithmetic entry n, where the entries below are well sorted
module _ (s : List ℕ) (n : ℕ) (below : (m : ℕ) → m < n → ArithSorted (sizes s) (arith_at (entry s) m)) where
  arith_names : {x : ℕ} → Reference s Arithmetic n Expression x → arith_named (sizes s) (arith_below (arith_trees (entry s) n) x) ≡ true
  unfolding limit same_table table_of
  arith_names {x} h = rw (arith_below_lem (entry s) n x h.lower) (below x h.lower).named

  arith_lower : {x : ℕ} → Reference s Arithmetic n Expression x
      → (ltb (arith_entry (arith_below (arith_trees (entry s) n) x)) n && arith_points (arith_below (arith_trees (entry s) n) x)) ≡ true
  unfolding limit same_table table_of
  arith_lower {x} h = rw (arith_below_lem (entry s) n x h.lower, arith_entry_lem (entry s) x) (both (lt-ltb _ _ h.lower) (below x h.lower).points)

  arith_node_lem : (k p q r : ℕ) → Operands s Arithmetic n (shape Arithmetic k) (record { kind = k; p = p; q = q; r = r })
      → ArithSorted (sizes s) (arith_node (arith_trees (entry s) n) n (record { kind = k; p = p; q = q; r = r }))
  unfolding shape kinds arith_kind arith_made arith_named arith_points
  arith_node_lem =
      by_kind _
      (λ p q r h. record { named = refl; points = refl })
      (λ p q r h. record { named = h.0; points = refl })
      (λ p q r h. record { named = both h.0 (arith_names h.1); points = arith_lower h.1 })
      (λ p q r h. record { named = both (arith_names h.0) (arith_names h.1); points = both (arith_lower h.0) (arith_lower h.1) })
      (λ p q r h. record { named = both (arith_names h.0) (arith_names h.1); points = both (arith_lower h.0) (arith_lower h.1) })
      (λ p q r h. record { named = both (arith_names h.0) (arith_names h.1); points = both (arith_lower h.0) (arith_lower h.1) })
      (λ p q r h. record { named = both (arith_names h.0) (arith_names h.1); points = both (arith_lower h.0) (arith_lower h.1) })
      (λ p q r h. record { named = both (arith_names h.0) (arith_names h.1); points = both (arith_lower h.0) (arith_lower h.1) })
      (λ k p q r h. absurd h)

pub arith_sorted : (s : List ℕ) → validity s ≡ Ok tt → (n : ℕ) → n < entry_count s Arithmetic → ArithSorted (sizes s) (arith_at (entry s) n)
unfolding arith_at
arith_sorted s fit =
    from_below _ (λ n below h. arith_node_lem s n (λ m l. below m l (omega arith)) _ _ _ _ (operands_fit s fit Arithmetic n h))

-- the same of what an entry is: its references are lower, and a variable's name is there
abbrev pub There : ℕ → ArithNode → Type 0
There names (Number z) = Unit
There names (Variable x) = x < names
There names (Element x i) = Unit
There names (Operator o p q) = Unit

module _ (s : List ℕ) (n : ℕ) where
  variable_there : (x : ℕ) → is_variable (sizes s) x ≡ true → x < name_count s
  unfolding is_variable
  variable_there x h = omega (arith, ltb-true x (length (sizes s)) (two (ltb x (length (sizes s))) (eqb (get_or (sizes s) x 0) 0) h).0, sizes_length s)

  node_fit : (k p q r : ℕ) → Operands s Arithmetic n (shape Arithmetic k) (record { kind = k; p = p; q = q; r = r })
      → Lower n (arith_kind (record { kind = k; p = p; q = q; r = r })) × There (name_count s) (arith_kind (record { kind = k; p = p; q = q; r = r }))
  unfolding shape kinds arith_kind limit same_table table_of
  node_fit =
      by_kind _
      (λ p q r h. (tt, tt)) (λ p q r h. (tt, variable_there p h.0)) (λ p q r h. (h.1.lower, tt))
      (λ p q r h. ((h.0.lower, h.1.lower), tt)) (λ p q r h. ((h.0.lower, h.1.lower), tt)) (λ p q r h. ((h.0.lower, h.1.lower), tt))
      (λ p q r h. ((h.0.lower, h.1.lower), tt)) (λ p q r h. ((h.0.lower, h.1.lower), tt))
      (λ k p q r h. absurd h)

module _ (s : List ℕ) (fit : validity s ≡ Ok tt) (n : ℕ) (h : n < entry_count s Arithmetic) where
  pub node_lower : Lower n (arith_kind (entry s Arithmetic n))
  node_lower = (node_fit s n _ _ _ _ (operands_fit s fit Arithmetic n h)).0

  pub node_there : There (name_count s) (arith_kind (entry s Arithmetic n))
  node_there = (node_fit s n _ _ _ _ (operands_fit s fit Arithmetic n h)).1

-- boolean entry n, where the arithmetic entries and the boolean ones below are well sorted
module _ (s : List ℕ) (fit : validity s ≡ Ok tt) (n : ℕ) (below : (m : ℕ) → m < n → BooleanSorted (sizes s) (boolean_at (entry s) m)) where
  boolean_names : {x : ℕ} → Reference s Booleans n Condition x → boolean_named (sizes s) (boolean_below (boolean_trees (entry s) n) x) ≡ true
  unfolding limit same_table table_of
  boolean_names {x} h = rw (boolean_below_lem (entry s) n x h.lower) (below x h.lower).named

  boolean_lower : {x : ℕ} → Reference s Booleans n Condition x
      → (ltb (boolean_entry (boolean_below (boolean_trees (entry s) n) x)) n && boolean_points (boolean_below (boolean_trees (entry s) n) x)) ≡ true
  unfolding limit same_table table_of
  boolean_lower {x} h = rw (boolean_below_lem (entry s) n x h.lower, boolean_entry_lem (entry s) x) (both (lt-ltb _ _ h.lower) (below x h.lower).points)

  side : {x : ℕ} → Reference s Booleans n Expression x → ArithSorted (sizes s) (arith_at (entry s) x)
  unfolding limit same_table table_of
  side {x} h = arith_sorted s fit x h.lower

  boolean_node_lem : (k p q r : ℕ) → Operands s Booleans n (shape Booleans k) (record { kind = k; p = p; q = q; r = r })
      → BooleanSorted (sizes s) (boolean_node (entry s) (boolean_trees (entry s) n) n (record { kind = k; p = p; q = q; r = r }))
  unfolding shape kinds boolean_kind boolean_made boolean_named boolean_points
  boolean_node_lem =
      by_kind _
      (λ p q r h. record { named = refl; points = refl })
      (λ p q r h. record { named = both (side h.0).named (side h.1).named; points = both (side h.0).points (side h.1).points })
      (λ p q r h. record { named = both (side h.0).named (side h.1).named; points = both (side h.0).points (side h.1).points })
      (λ p q r h. record { named = both (side h.0).named (side h.1).named; points = both (side h.0).points (side h.1).points })
      (λ p q r h. record { named = both (boolean_names h.0) (boolean_names h.1); points = both (boolean_lower h.0) (boolean_lower h.1) })
      (λ p q r h. record { named = both (boolean_names h.0) (boolean_names h.1); points = both (boolean_lower h.0) (boolean_lower h.1) })
      (λ p q r h. record { named = boolean_names h.0; points = boolean_lower h.0 })
      (λ p q r h. absurd h)
      (λ k p q r h. absurd h)

pub boolean_sorted : (s : List ℕ) → validity s ≡ Ok tt → (n : ℕ) → n < entry_count s Booleans → BooleanSorted (sizes s) (boolean_at (entry s) n)
unfolding boolean_at
boolean_sorted s fit =
    from_below _ (λ n below h. boolean_node_lem s fit n (λ m l. below m l (omega arith)) _ _ _ _ (operands_fit s fit Booleans n h))
