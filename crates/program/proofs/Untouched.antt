-- A prepared program depends on the numbers of its code before the set table alone.
use mathlib.Core.Path.{◌≡◌, refl, ap, ◌∙◌}
use mathlib.Core.List.{List}
use Prim.Native.Nat.{ℕ, ◌+◌, ◌*◌, ◌<◌}
use native.Mathlib.Decide.{dec_le}
use native.Mathlib.Omega.{arith}
use borrow.Author.Tests.{lt-ltb, le-ltb}
use lib.ListN.{length, get_or}
use Rattle.program.specs.Graph.{Graph}
use Rattle.program.specs.Kind.{arith_kind}
use Rattle.program.specs.Parts.Prepared.{name_count_place, arithmetic_count_place, table_place, code_length, numbers_at, entries_in, size_in, cell_in, arith_in, Coded, PreparedEdge, Prepared}
use Rattle.program.specs.declared.Table.{Table}
use Rattle.program.specs.declared.Table.TheVariants.{Arithmetic, Boolean, Commands}

module _ (a b : List ℕ) (long : length b ≡ code_length) (kept : (i : ℕ) → i < table_place → get_or b i 0 ≡ get_or a i 0) where
  same_numbers : (at : ℕ) → at + 3 < table_place → numbers_at b at ≡ numbers_at a at
  unfolding numbers_at
  same_numbers at h = rw (kept at (omega arith), kept (at + 1) (omega arith), kept (at + 2) (omega arith), kept (at + 3) h)

  same_node : (n : ℕ) → n < 512 → arith_in b n ≡ arith_in a n
  unfolding arith_in
  same_node n h = ap arith_kind (same_numbers (4 * n) (omega arith))

  same_entry : (graph : List ℕ) (t : Table) (n : ℕ) → entries_in b graph t n ≡ entries_in a graph t n
  unfolding entries_in
  same_entry graph Arithmetic n =
      elim (dec_le 512 n) [
        | yes h ↦ rw (le-ltb n 512 h)
        | no h ↦ rw (lt-ltb n 512 (omega arith), same_numbers (4 * n) (omega arith))
      ]
  same_entry graph Boolean n =
      elim (dec_le 256 n) [
        | yes h ↦ rw (le-ltb n 256 h)
        | no h ↦ rw (lt-ltb n 256 (omega arith), same_numbers (2048 + 4 * n) (omega arith))
      ]
  same_entry graph Commands n = refl

  same_size : (x : ℕ) → size_in b x ≡ size_in a x
  unfolding size_in
  same_size x =
      elim (dec_le 32 x) [
        | yes h ↦ rw (le-ltb x 32 h)
        | no h ↦ rw (lt-ltb x 32 (omega arith), kept (3072 + x) (omega arith))
      ]

  same_cell : (x : ℕ) → cell_in b x ≡ cell_in a x
  unfolding cell_in
  same_cell x =
      elim (dec_le 32 x) [
        | yes h ↦ rw (le-ltb x 32 h)
        | no h ↦ rw (lt-ltb x 32 (omega arith), kept (3104 + x) (omega arith))
      ]

  coded_still : {ns : List ℕ} → Coded ns a → Coded ns b
  coded_still {ns} c =
      record {
        long = long;
        some = c.some;
        few = c.few;
        most = c.most;
        count = kept name_count_place (omega arith) ∙ c.count;
        size = λ x h. same_size x ∙ c.size x h;
        cell = λ x h. same_cell x ∙ c.cell x h;
        cells = kept 3136 (omega arith) ∙ c.cells;
        ordered = record { few = rw counted c.ordered.few; lower = λ n h. rw (same_node n (below n h)) (c.ordered.lower n (rw (← counted) h)) };
        leaf = λ n h. rw (same_node n (below n h)) (kept (4 * n + 3) (omega (arith, below n h)) ∙ c.leaf n (rw (← counted) h));
        past = λ n h k. same_numbers (4 * n) (omega arith) ∙ c.past n (rw (← counted) h) k;
      }
    where
      counted : get_or b arithmetic_count_place 0 ≡ get_or a arithmetic_count_place 0
      counted = kept arithmetic_count_place (omega arith)

      below : (n : ℕ) → n < get_or b arithmetic_count_place 0 → n < 512
      below n h = omega (arith, c.ordered.few, counted)

  pub prepared_still : {ns : List ℕ} {g : Graph} {graph : List ℕ} → Prepared ns g a graph → Prepared ns g b graph
  prepared_still {ns} {g} {graph} p =
      record {
        coded = coded_still p.coded;
        few_nodes = p.few_nodes;
        few_edges = p.few_edges;
        nodes = p.nodes;
        edges = p.edges;
        edge = λ e h. edge_still e (p.edge e h);
      }
    where
      entries : entries_in b graph ≡ entries_in a graph
      entries = λ i t n. same_entry graph t n i

      edge_still : (e : ℕ) → PreparedEdge ns g a graph e → PreparedEdge ns g b graph e
      edge_still e x = record { source = x.source; target = x.target; from = x.from; to = x.to; action = rw entries x.action; named = x.named; guard = x.guard; follows = x.follows }
