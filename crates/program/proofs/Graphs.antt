-- Laws of a prepared graph that is filled from a well-formed program.
use Rattle.std.specs.Prelude.{Ok}
use mathlib.Core.Path.{◌≡◌, refl, ◌∙◌, ap}
use mathlib.Core.List.{List, [], ◌∷◌, flat_map}
use Prim.Native.Nat.{ℕ, zero, suc, ◌+◌, ◌-◌, ◌*◌, ◌≤◌, ◌<◌}
use native.Mathlib.Omega.{arith}
use lib.ListN.{length, get_or, set, length-append, length-set, get_or-append}
use lib.Seq.{get_or-append-add, get_or-set_same, get_or-set_other}
use borrow.Author.Tests.{lt-ltb}
use Rattle.program.specs.Parts.DrawingParts.{over_at}
use Rattle.program.specs.File.{layout_of, span_of, entry_count, entry_offset, entry_at, entry}
use Rattle.program.specs.Graph.{Edge, within, edge_at, graph, edges, edge_count, node_count}
use Rattle.program.specs.Parts.GraphingParts.{edge_words, Strip, strip, fresh_of, next_of, part_at, Drew, Room}
use Rattle.program.specs.Parts.Prepared.{edge_place, node_count_place, edge_count_place, numbers_at, entries_in, edge_in}
use Rattle.program.specs.Parts.Preparing.{Copied, EdgeWords, GraphIn}
use Rattle.program.specs.Questions.{validity}
use Rattle.program.specs.Tree.{last_command, script}
use Rattle.program.specs.declared.Construction.{Construction}
use Rattle.program.specs.declared.Layout.{Layout}
use Rattle.program.specs.declared.Span.{Span}
use Rattle.program.specs.declared.Table.TheVariants.{Commands}
use Rattle.program.proofs.Counts.{few_edges, few_nodes}
use Rattle.program.proofs.Fit.{counts, table_whole}
use Rattle.program.proofs.Reading.{laid_count, laid_start}
use Rattle.program.proofs.Overlaid.{over_before, over_inside, over_length}
use Rattle.program.proofs.Rows.{same_strip}
use Rattle.program.proofs.Trees.{command_below_lem}

-- the commands of a well-formed program are in the file, and not too many for an array of 256
pub record Within (s : List ℕ) (x : Span) : Type 0 where
  pub there : x.start + 7 * x.count ≤ length s
  pub some : 1 ≤ x.count
  pub few : x.count ≤ 256

-- four numbers for each edge
words_length : (es : List Edge) → length (flat_map edge_words es) ≡ 4 * length es
unfolding flat_map edge_words
words_length [] = refl
words_length (e ∷ es) = omega (arith, length-append (edge_words e) (flat_map edge_words es), words_length es)

words_at : (es : List Edge) (e k : ℕ) (d : Edge) → e < length es → k < 4 → get_or (flat_map edge_words es) (4 * e + k) 0 ≡ get_or (edge_words (get_or es e d)) k 0
unfolding flat_map edge_words
words_at [] e k d h l = absurd (omega arith)
words_at (x ∷ es) zero k d h l =
    let here : 4 * zero + k ≡ k = omega arith in
    ap (λ (i : ℕ). get_or (flat_map edge_words (x ∷ es)) i 0) here ∙ get_or-append (edge_words x) (flat_map edge_words es) 0 k l
words_at (x ∷ es) (suc e) k d h l =
    let there : 4 * suc e + k ≡ 4 + (4 * e + k) = omega arith in
    ap (λ (i : ℕ). get_or (flat_map edge_words (x ∷ es)) i 0) there
    ∙ get_or-append-add (edge_words x) (flat_map edge_words es) (4 * e + k) 0 ∙ words_at es e k d (omega arith) l

module _ (κ : Construction) (s : List ℕ) (fit : validity s ≡ Ok tt) (l : Layout) (laid : l ≡ layout_of s) where
  pub commands_within : Within s l.commands
  unfolding span_of
  commands_within =
      let count = laid_count s l laid Commands in
      record {
        there = omega (arith, laid_start s l laid Commands, table_whole s fit Commands);
        some = omega (arith, (counts s fit).some_command);
        few = omega (arith, (counts s fit).commands);
      }

  abbrev whole : Strip
  whole = record { words = flat_map edge_words (edges κ s); fresh = node_count κ s }

  -- where the commands are copied to the front of the graph
  module _ {old out : List ℕ} (copy : Copied s l.commands.start 0 l.commands.count old out) where
    copied_command : (n : ℕ) → n < l.commands.count → numbers_at out (4 * n) ≡ entry s Commands n
    unfolding entry entry_offset span_of
    copied_command n h =
        ap (numbers_at out) (omega arith) ∙ copy.copied n h ∙ ap (entry_at s) (omega (arith, laid_start s l laid Commands))

    same_command : (n : ℕ) → n < l.commands.count → entries_in [] out Commands n ≡ entry s Commands n
    unfolding entries_in
    same_command n h = rw (lt-ltb n 256 (omega (arith, commands_within.few))) (copied_command n h)

    -- the program is the last of them, as a part of all
    program_strip : strip κ (within 0 1) (part_at (entries_in [] out) l.commands.count (l.commands.count - 1)) 0 1 2 ≡ whole
    unfolding strip node_count edges graph script last_command span_of
    program_strip =
        same_strip (entries_in [] out) (entry s) l.commands.count same_command (l.commands.count - 1) κ (within 0 1) 0 1 2
        ∙ rw (laid_count s l laid Commands, command_below_lem (entry s) (entry_count s Commands) (entry_count s Commands - 1) (omega (arith, (counts s fit).some_command)))

    whole_length : length (flat_map edge_words (edges κ s)) ≡ 4 * edge_count κ s
    unfolding edge_count
    whole_length = words_length (edges κ s)

    -- 255 edges have room, and 129 nodes numbers
    pub program_room : Room (strip κ (within 0 1) (part_at (entries_in [] out) l.commands.count (l.commands.count - 1)) 0 1 2) 0
    program_room =
        rw program_strip
        record { words_fit = omega (arith, whole_length, few_edges s fit κ); nodes_fit = omega (arith, few_nodes s fit κ) }

    -- where the edges are drawn and counted
    module _ {drawn : List ℕ} {r : ℕ} (drew : Drew (strip κ (within 0 1) (part_at (entries_in [] out) l.commands.count (l.commands.count - 1)) 0 1 2) 0 out drawn r) where
      d : Drew whole 0 out drawn r
      d = rw program_strip at drew

      abbrev counted : List ℕ
      counted = set (set drawn node_count_place (fresh_of r)) edge_count_place (next_of r)

      drawn_length : length drawn ≡ 2430
      drawn_length = ap length d.written ∙ over_length edge_place _ out (omega (arith, whole_length, few_edges s fit κ, d.size)) ∙ d.size

      before_counts : (i : ℕ) → i < node_count_place → get_or counted i 0 ≡ get_or drawn i 0
      before_counts i h =
          get_or-set_other (set drawn node_count_place (fresh_of r)) edge_count_place i (next_of r) 0 (λ p. omega arith)
          ∙ get_or-set_other drawn node_count_place i (fresh_of r) 0 (λ p. omega arith)

      kept : (i : ℕ) → i < edge_place → get_or counted i 0 ≡ get_or out i 0
      kept i h = before_counts i (omega arith) ∙ ap (λ (x : List ℕ). get_or x i 0) d.written ∙ over_before edge_place _ out i h (omega (arith, d.size))

      drawn_word : (e k : ℕ) → e < edge_count κ s → k < 4 → edge_in counted e k ≡ get_or (edge_words (edge_at (graph κ s) e)) k 0
      unfolding edge_in edge_count edges edge_at
      drawn_word e k h m =
          let few : e < 255 = omega (arith, few_edges s fit κ) in
          rw (lt-ltb e 255 few)
          (before_counts (edge_place + 4 * e + k) (omega arith)
          ∙ ap (λ (x : List ℕ). get_or x (edge_place + 4 * e + k) 0) d.written
          ∙ ap (λ (i : ℕ). get_or (over_at edge_place (flat_map edge_words (edges κ s)) out) i 0) (omega arith)
          ∙ over_inside edge_place _ out (4 * e + k) (omega (arith, d.size)) (omega (arith, whole_length))
          ∙ words_at (edges κ s) e k _ h m)

      drawn_edge : (e : ℕ) → e < edge_count κ s → EdgeWords κ s counted e
      unfolding edge_words
      drawn_edge e h =
          record {
            source = drawn_word e 0 h (omega arith);
            target = drawn_word e 1 h (omega arith);
            kind = drawn_word e 2 h (omega arith);
            entry = drawn_word e 3 h (omega arith);
          }

      pub graph_filled : GraphIn κ s counted
      unfolding numbers_at span_of
      graph_filled =
          record {
            commands =
                λ n h.
                let here : n < l.commands.count = omega (arith, laid_count s l laid Commands) in
                let few = commands_within.few in
                rw (kept (4 * n) (omega arith), kept (4 * n + 1) (omega arith), kept (4 * n + 2) (omega arith), kept (4 * n + 3) (omega arith)) (copied_command n here);
            nodes =
                get_or-set_other (set drawn node_count_place (fresh_of r)) edge_count_place node_count_place (next_of r) 0 (λ p. omega arith)
                ∙ get_or-set_same drawn node_count_place (fresh_of r) 0 (omega (arith, drawn_length)) ∙ d.fresh;
            edges =
                get_or-set_same (set drawn node_count_place (fresh_of r)) edge_count_place (next_of r) 0 (omega (arith, length-set drawn node_count_place (fresh_of r), drawn_length))
                ∙ omega (arith, d.next, whole_length);
            edge = drawn_edge;
          }
