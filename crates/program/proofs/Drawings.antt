-- Laws of the drawing of a well-formed program into a buffer: the bytes of a prepared graph's edges, seven for each, and question 13.
use Rattle.std.specs.Prelude.{Err, Ok}
use mathlib.Core.Path.{◌≡◌, refl, ◌∙◌, ap}
use mathlib.Core.List.{List, flat_map, append-nil}
use Prim.Native.Nat.{ℕ, zero, suc, ◌+◌, ◌*◌, ◌%◌, ◌≤◌, ◌<◌}
use native.Mathlib.Numerals.{add-one}
use native.Mathlib.Omega.{arith}
use lib.ListN.{length, take, length-append}
use lib.Seq.{take-suc, take-length}
use borrow.Author.Tests.{le-leb, lt-leb}
use Rattle.program.specs.Asking.{ask, then_ask}
use Rattle.program.specs.Drawing.{draw_validity, over}
use Rattle.program.specs.Parts.DrawingParts.{over_at, edge_row, rows_in}
use Rattle.program.specs.Graph.{Action, perform, test, leave, select, edge, action_kind, edge_at, graph, edges, edge_count, word_bytes, edge_bytes, graph_bytes}
use Rattle.program.specs.Parts.Prepared.{edge_in}
use Rattle.program.specs.Parts.Preparing.{GraphIn}
use Rattle.program.specs.Questions.{validity}
use Rattle.program.specs.Syntax.{skip}
use Rattle.program.specs.declared.Construction.{Construction}
use Rattle.program.specs.declared.Refusal.{Refusal}
use Rattle.program.proofs.Lists.{concat_append}
use Rattle.program.proofs.Overlaid.{over_then}

rows_length : (g : List ℕ) (n : ℕ) → length (rows_in g n) ≡ 7 * n
unfolding rows_in edge_row word_bytes
rows_length g zero = refl
rows_length g (suc n) =
    length-append (rows_in g n) _ ∙ omega (arith, rows_length g n)

-- one edge more over the start of a buffer
pub rows_next : (g a : List ℕ) (e : ℕ) {b c : List ℕ} {source target word entry : ℕ} → 7 * e ≤ length a → b ≡ over (rows_in g e) a
    → source ≡ edge_in g e 0 → target ≡ edge_in g e 1 → word ≡ edge_in g e 2 → entry ≡ edge_in g e 3
    → c ≡ over_at (7 * e) (edge_row source target (word % 256) entry) b → c ≡ over (rows_in g (e + 1)) a
unfolding rows_in over_at
rows_next g a e h first p q m r second =
    let long : 7 * e ≡ 0 + length (rows_in g e) = omega (arith, rows_length g e) in
    rw add-one (over_then a 0 (rows_in g e) _ (omega arith) first long (second ∙ rw (p, q, m, r)))

small_kind : (x : Action) → action_kind x % 256 ≡ action_kind x
unfolding action_kind
small_kind (perform c) = refl
small_kind (test b) = refl
small_kind (leave c) = refl
small_kind (select k earlier b) = refl

module _ (κ : Construction) (s g : List ℕ) (drawn : GraphIn κ s g) where
  edge_row_lem : (e : ℕ) → e < edge_count κ s → edge_row (edge_in g e 0) (edge_in g e 1) (edge_in g e 2 % 256) (edge_in g e 3) ≡ edge_bytes (edge_at (graph κ s) e)
  unfolding edge_row edge_bytes
  edge_row_lem e h =
      let w = drawn.edge e h in
      rw (w.source, w.target, w.kind, w.entry, small_kind)

  rows_first : (n : ℕ) → n ≤ edge_count κ s → rows_in g n ≡ flat_map edge_bytes (take n (edges κ s))
  unfolding rows_in flat_map edge_count edges edge_at
  rows_first zero h = refl
  rows_first (suc n) h =
      rw (take-suc (edges κ s) n (edge 0 (perform (skip 0)) 0) h, concat_append, rows_first n (omega arith), edge_row_lem n h, append-nil)

  -- the bytes of all edges
  pub rows_all : rows_in g (edge_count κ s) ≡ graph_bytes κ s
  unfolding graph_bytes edge_count
  rows_all = rows_first (length (edges κ s)) (omega arith) ∙ ap (flat_map edge_bytes) (take-length (edges κ s))

-- question 13, after the others
module _ (κ : Construction) (s buffer : List ℕ) where
  pub unfit : {x : Refusal} → validity s ≡ Err x → draw_validity κ s buffer ≡ Err x
  unfolding draw_validity then_ask
  unfit e = rw e

  pub too_short : validity s ≡ Ok tt → length buffer < 7 * edge_count κ s → draw_validity κ s buffer ≡ Err (record { number = 13; offset = 0 })
  unfolding draw_validity then_ask ask
  too_short fit h = rw (fit, lt-leb _ _ h)

  pub long_enough : validity s ≡ Ok tt → 7 * edge_count κ s ≤ length buffer → draw_validity κ s buffer ≡ Ok tt
  unfolding draw_validity then_ask ask
  long_enough fit h = rw (fit, le-leb _ _ h)
