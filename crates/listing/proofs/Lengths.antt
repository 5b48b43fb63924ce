-- How long the text can be: 300,000 bytes hold it.
use mathlib.Core.Path.{◌≡◌, refl}
use mathlib.Core.Bool.{Bool, true, false, cond, ◌&&◌, ◌||◌, false≢true}
use mathlib.Core.List.{List, [], ◌∷◌, flat_map, flatten}
use Prim.Native.Nat.{ℕ, zero, suc, ◌+◌, ◌*◌, ◌≤◌, ◌<◌}
use native.Mathlib.Omega.{arith}
use borrow.Author.Tests.{eqb-true, leb-true}
use lib.Dec.{eqb, leb}
use lib.ListN.{length, get_or, length-append}
use Rattle.signs.specs.Lists.{tabulate}
use Rattle.program.specs.File.{sizes}
use Rattle.program.specs.Graph.{graph}
use Rattle.program.specs.declared.Construction.TheVariants.{Nondeterministic}
use Rattle.program.specs.declared.Refusal.{Refusal}
use Rattle.program.proofs.Lists.{each_at}
use Rattle.program.proofs.Tests.{two}
use Rattle.analysis.specs.Abstraction.{well_formed}
use Rattle.analysis.specs.Records.{node_of, memory_of}
use Rattle.analysis.specs.Sheet.{Line, counts_line, record_line, index_line, refusal_line, listing}
use Rattle.analysis.specs.Verdict.{index_mark}
use Rattle.analysis.specs.declared.Mark.{Mark}
use Rattle.analysis.specs.declared.Mark.TheVariants.{Clean, Unclean}
use Rattle.analysis.proofs.Formed.{FormedList}
use Rattle.listing.specs.Parts.Writing.{counts_of, index_of}
use Rattle.listing.specs.Text.{ascii, decimal, labelled, mark_text, line_text}
use Rattle.listing.proofs.Decimals.{decimal_short, decimal_below}
use Rattle.listing.proofs.Listings.{record_listed, listing_parts}
use Rattle.listing.proofs.Placing.{texts_next}

-- a number after a text
labelled_length : (label : List ℕ) (n : ℕ) → length (labelled label n) ≡ length label + length (decimal n)
unfolding labelled
labelled_length label n = length-append label (decimal n)

-- a set that is right for a name is one digit
one_digit : (size b : ℕ) → well_formed size b ≡ true → b < 10
unfolding well_formed
one_digit size b = by (eqb size 0)
  where
    one_of : (x y z : Bool) → eqb b 1 ≡ x → eqb b 2 ≡ y → eqb b 4 ≡ z → (x || y || z) ≡ true → b < 10
    one_of true y z p q r e = omega (arith, eqb-true b 1 p)
    one_of false true z p q r e = omega (arith, eqb-true b 2 q)
    one_of false false true p q r e = omega (arith, eqb-true b 4 r)
    one_of false false false p q r e = absurd (false≢true e)

    by : (c : Bool) → cond c (eqb b 1 || eqb b 2 || eqb b 4) (leb 1 b && leb b 7) ≡ true → b < 10
    by true e = one_of (eqb b 1) (eqb b 2) (eqb b 4) refl refl refl e
    by false e = omega (arith, leb-true b 7 (two (leb 1 b) (leb b 7) e).1)

signs_short : (l : List ℕ) → ((i : ℕ) → i < length l → get_or l i 0 < 10) → length (flat_map (labelled (ascii " ")) l) ≤ 2 * length l
unfolding flat_map ascii
signs_short [] h = omega arith
signs_short (x ∷ l) h =
    rw (length-append (labelled (ascii " ") x) (flat_map (labelled (ascii " ")) l))
    (omega (arith, labelled_length (ascii " ") x, decimal_below x 0 (h 0 (omega arith)), signs_short l (λ i k. h (suc i) (omega arith))))

record_short : (k node : ℕ) (signs : List ℕ) → k < 10000 → node < 1000 → length signs ≤ 32 → ((i : ℕ) → i < length signs → get_or signs i 0 < 10)
    → length (line_text (record_line k node signs)) ≤ 73
unfolding line_text ascii
record_short k node signs hk hn few low =
    simp length-append
    (omega (arith, labelled_length (ascii " ") node, decimal_below k 3 hk, decimal_below node 2 hn, signs_short signs low))

counts_short : (nodes edges count : ℕ) → length (line_text (counts_line nodes edges count)) ≤ 100
unfolding line_text ascii
counts_short nodes edges count =
    simp length-append
    (omega (arith, labelled_length (ascii "nodes ") nodes, labelled_length (ascii " arrows ") edges, labelled_length (ascii " records ") count, decimal_short nodes, decimal_short edges, decimal_short count))

index_short : (mark : Mark) → length (line_text (index_line mark)) ≤ 100
unfolding line_text mark_text ascii
index_short Clean = omega arith
index_short (Unclean k e) =
    simp length-append (omega (arith, labelled_length (ascii "index record ") k, labelled_length (ascii " arrow ") e, decimal_short k, decimal_short e))

pub refusal_short : (x : Refusal) → length (line_text (refusal_line x)) ≤ 300000
unfolding line_text ascii
refusal_short x =
    simp length-append
    (omega (arith, labelled_length (ascii "refused ") x.number, labelled_length (ascii " at ") x.offset, decimal_short x.number, decimal_short x.offset))

-- so many lines of at most 73 bytes
no_lines : (f : ℕ → Line) → length (flat_map line_text (tabulate 0 f)) ≤ 73 * 0
unfolding flat_map tabulate
no_lines f = omega arith

lines_short : (f : ℕ → Line) (n : ℕ) → ((k : ℕ) → k < n → length (line_text (f k)) ≤ 73) → length (flat_map line_text (tabulate n f)) ≤ 73 * n
lines_short f zero h = no_lines f
lines_short f (suc n) h =
    rw (texts_next line_text f n, length-append (flat_map line_text (tabulate n f)) (line_text (f n)))
    (omega (arith, lines_short f n (λ k l. h k (omega arith)), h n (omega arith)))

-- the listing of at most 4,096 well-formed records, of at most 32 names and at nodes below 1,000
module _ (s : List ℕ) (rs : List (List ℕ)) {nodes room : ℕ} (all : FormedList (sizes s) nodes room rs) where
  record_listed_lem : nodes ≤ 1000 → room ≤ 10000 → length (sizes s) ≤ 32 → (k : ℕ) → k < length rs → length (line_text (record_listed s rs k)) ≤ 73
  unfolding record_listed
  record_listed_lem low few names k h =
      let r = each_at k [] all.each h in
      record_short k (node_of (get_or rs k [])) (memory_of (sizes s) (get_or rs k [])) (omega (arith, all.few)) (omega (arith, r.node)) (omega (arith, r.memory.sized))
      (λ i l. one_digit (get_or (sizes s) i 0) _ (r.memory.formed i (omega (arith, r.memory.sized))))

  pub listing_short : nodes ≤ 1000 → room ≤ 4096 → length (sizes s) ≤ 32 → length (flat_map line_text (listing s rs)) ≤ 300000
  unfolding counts_of index_of
  listing_short low few names =
      rw (listing_parts s rs)
      (simp length-append
      (omega (arith, counts_short (graph Nondeterministic s).nodes (length (graph Nondeterministic s).edges) (length rs), lines_short (record_listed s rs) (length rs) (record_listed_lem low (omega arith) names), index_short (index_mark (sizes s) (graph Nondeterministic s) (flatten rs)), all.few)))
