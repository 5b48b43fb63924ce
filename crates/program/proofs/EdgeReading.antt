-- An edge read out of the graph's bytes has the numbers of the graph's edge.
use Rattle.std.specs.Prelude.{Ok}
use mathlib.Core.Path.{◌≡◌}
use mathlib.Core.List.{List, [], ◌∷◌, ◌++◌, flat_map}
use Prim.Native.Nat.{ℕ, zero, suc, ◌+◌, ◌*◌, ◌/◌, ◌%◌, ◌≤◌, ◌<◌}
use native.Mathlib.Nat.{le_of_suc-le-suc, not-suc-le-zero}
use native.Mathlib.Omega.{arith}
use lib.ListN.{length, get_or, drop}
use lib.Seq.{get_or-append-add}
use Rattle.program.specs.Parts.DrawingParts.{edge_numbers}
use Rattle.program.specs.Drawing.{over, edge_read}
use Rattle.program.specs.File.{byte_at, word_at, entry_count}
use Rattle.program.specs.Parts.Sorted.{action_table}
use Rattle.program.specs.Graph.{Edge, edges, edge_count, action_kind, action_entry, word_bytes, edge_bytes, graph_bytes}
use Rattle.program.specs.Questions.{validity}
use Rattle.program.specs.declared.Construction.{Construction}
use Rattle.program.specs.declared.Table.{Table}
use Rattle.program.specs.declared.Table.TheVariants.{Arithmetic, Boolean, Commands}
use Rattle.program.proofs.Actions.{edge_faithful}
use Rattle.program.proofs.Counts.{few_nodes}
use Rattle.program.proofs.Fit.{counts}
use Rattle.program.proofs.Nodes.{edge_inside}

-- numbers that two bytes hold
record Small (e : Edge) : Type 0 where
  source : e.source < 65536
  target : e.target < 65536
  entry : action_entry e.action < 65536

word_back : (n : ℕ) → n < 65536 → n / 256 % 256 * 256 + n % 256 ≡ n
word_back n h = omega arith

module _ (e : Edge) (bytes : List ℕ) where
  -- what stands seven bytes further
  byte_past_edge : (m n : ℕ) → m ≡ 7 + n → byte_at (edge_bytes e ++ bytes) m ≡ byte_at bytes n
  unfolding byte_at edge_bytes word_bytes
  byte_past_edge m n h = rw h (get_or-append-add (edge_bytes e) bytes n 0)

  word_past_edge : (m n : ℕ) → m ≡ 7 + n → word_at (edge_bytes e ++ bytes) m ≡ word_at bytes n
  unfolding word_at
  word_past_edge m n h = rw (byte_past_edge m n h, byte_past_edge (m + 1) (n + 1) (omega arith))

  read_next : (k : ℕ) → edge_read (edge_bytes e ++ bytes) (suc k) ≡ edge_read bytes k
  unfolding edge_read
  read_next k =
      rw (
        word_past_edge (7 * suc k) (7 * k) (omega arith),
        word_past_edge (7 * suc k + 2) (7 * k + 2) (omega arith),
        byte_past_edge (7 * suc k + 4) (7 * k + 4) (omega arith),
        word_past_edge (7 * suc k + 5) (7 * k + 5) (omega arith),
      )

  read_first : Small e → edge_read (edge_bytes e ++ bytes) 0 ≡ edge_numbers e
  unfolding edge_read edge_numbers edge_bytes word_bytes byte_at word_at
  read_first h = rw (word_back _ h.source, word_back _ h.target, word_back _ h.entry)

read_at : (es : List Edge) (rest : List ℕ) (k : ℕ) (d : Edge) → k < length es → Small (get_or es k d) → edge_read (flat_map edge_bytes es ++ rest) k ≡ edge_numbers (get_or es k d)
unfolding flat_map edge_bytes word_bytes
read_at [] rest k d h small = absurd (not-suc-le-zero h)
read_at (e ∷ es) rest zero d h small = read_first e (flat_map edge_bytes es ++ rest) small
read_at (e ∷ es) rest (suc k) d h small = rw (read_next e (flat_map edge_bytes es ++ rest) k) (read_at es rest k d (le_of_suc-le-suc h) small)

module _ (κ : Construction) (s : List ℕ) (fit : validity s ≡ Ok tt) where
  few_entries : (t : Table) → entry_count s t ≤ 512
  few_entries Arithmetic = (counts s fit).arithmetic
  few_entries Boolean = omega (arith, (counts s fit).boolean)
  few_entries Commands = omega (arith, (counts s fit).commands)

  small_edge : (k : ℕ) (d : Edge) → k < edge_count κ s → Small (get_or (edges κ s) k d)
  small_edge k d h =
      let e = edge_inside κ s k d h in
      let few = few_nodes s fit κ in
      record {
        source = omega (arith, e.source_inside);
        target = omega (arith, e.target_inside);
        entry = omega (arith, (edge_faithful s fit κ k d h).exists, few_entries (action_table (action_kind (get_or (edges κ s) k d).action)));
      }

  module _ (k : ℕ) (d : Edge) (h : k < edge_count κ s) where
    -- out of bytes that begin with the graph's
    pub edge_read_lem : (rest : List ℕ) → edge_read (graph_bytes κ s ++ rest) k ≡ edge_numbers (get_or (edges κ s) k d)
    unfolding graph_bytes edge_count
    edge_read_lem rest = read_at (edges κ s) rest k d h (small_edge k d h)

    -- out of a buffer that it was drawn into
    pub drawn_edge_read : (buffer : List ℕ) → edge_read (over (graph_bytes κ s) buffer) k ≡ edge_numbers (get_or (edges κ s) k d)
    unfolding over
    drawn_edge_read buffer = edge_read_lem (drop (length (graph_bytes κ s)) buffer)
