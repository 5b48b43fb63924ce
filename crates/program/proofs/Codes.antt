-- Laws of the code of a prepared program: what each part puts into the array, and that the parts make the code of a file.
use Rattle.std.specs.Prelude.{Ok}
use mathlib.Core.Path.{◌≡◌, refl, sym, ◌∙◌, ap}
use mathlib.Core.List.{List}
use Prim.Native.Nat.{ℕ, ◌+◌, ◌*◌, ◌%◌, ◌≤◌, ◌<◌}
use native.Mathlib.Decide.{ℕ_discrete}
use native.Mathlib.Omega.{arith}
use borrow.Author.Tests.{lt-ltb}
use mathlib.Core.Bool.{cond}
use lib.Dec.{ltb}
use lib.ListN.{length, get_or, set, replicate, length-set}
use lib.Seq.{get_or-set_same, get_or-set_other}
use Rattle.program.specs.Parts.Prepared.{no_entry, boolean_place, size_place, cell_place, name_count_place, arithmetic_count_place, code_length, numbers_at, size_in, cell_in, arith_in, leaf_cell, Coded}
use Rattle.program.specs.File.{name_count, size_at, sizes, layout_of, span_of, table_start, entry_offset, entry_count, entry, cells_of, cell_count, first_cell}
use Rattle.program.specs.Kind.{arith_kind}
use Rattle.program.specs.Parts.Preparing.{Copied, NamesPut, NamesDone, fourth_in, CellsPut, CodeIn}
use Rattle.program.specs.Questions.{validity}
use Rattle.program.specs.declared.ArithNode.{ArithNode}
use Rattle.program.specs.declared.ArithNode.TheVariants.{Number, Variable, Element, Operator}
use Rattle.program.specs.declared.Entry.{Entry}
use Rattle.program.specs.declared.Layout.{Layout}
use Rattle.program.specs.declared.Table.TheVariants.{Arithmetic, Boolean}
use Rattle.program.proofs.Cells.{cells_inside, sizes_length, size_at_lem}
use Rattle.program.proofs.Copying.{numbers_same}
use Rattle.program.proofs.Expressions.{There, node_there, node_lower}
use Rattle.program.proofs.Fit.{counts, few_cells}
use Rattle.program.proofs.Lists.{get_or_same}

-- a name's cells, and those of the names before it
pub name_room : (s : List ℕ) → validity s ≡ Ok tt → (i : ℕ) → i < name_count s → first_cell (sizes s) i + cells_of (size_at s i) ≤ 512
name_room s fit i h = omega (arith, few_cells s fit, cells_inside (sizes s) i (omega (arith, sizes_length s)), ap cells_of (size_at_lem s i h))

-- the names: none yet, one more, and all with the counts
module _ (s old : List ℕ) where
  pub names_none : length old ≡ code_length → NamesPut s 0 old old
  names_none len =
      record {
        long = len;
        size = λ x h. absurd (omega arith);
        cell = λ x h. absurd (omega arith);
        before = λ i h. refl;
      }

  pub names_next : (k size total : ℕ) {m : ℕ} {code : List ℕ} → k < 32 → size ≡ get_or (sizes s) k 0 → total ≡ first_cell (sizes s) k → m ≡ k + 1
      → NamesPut s k old code → NamesPut s m old (set (set code (size_place + k) size) (cell_place + k) total)
  names_next k size total {m} {code} few e f next p =
      let first = set code (size_place + k) size in
      let len = p.long in
      record {
        long = rw (length-set, length-set) len;
        size =
            λ x h. get_or-set_other first (cell_place + k) (size_place + x) total 0 (λ q. omega arith) ∙ elim (ℕ_discrete x k) [
              | yes q ↦ rw q (get_or-set_same code (size_place + k) size 0 (omega arith) ∙ e)
              | no q ↦ get_or-set_other code (size_place + k) (size_place + x) size 0 (λ r. q (omega arith)) ∙ p.size x (omega arith)
            ];
        cell =
            λ x h. elim (ℕ_discrete x k) [
              | yes q ↦ rw q (get_or-set_same first (cell_place + k) total 0 (rw length-set (omega arith)) ∙ f)
              | no q ↦ get_or-set_other first (cell_place + k) (cell_place + x) total 0 (λ r. q (omega arith)) ∙ get_or-set_other code (size_place + k) (cell_place + x) size 0 (λ r. omega arith) ∙ p.cell x (omega arith)
            ];
        before = λ i h. get_or-set_other first (cell_place + k) i total 0 (λ r. omega arith) ∙ get_or-set_other code (size_place + k) i size 0 (λ r. omega arith) ∙ p.before i h;
      }

  pub names_done : (total names : ℕ) {code : List ℕ} → name_count s ≤ 32 → total ≡ cell_count (sizes s) → names ≡ name_count s
      → NamesPut s (name_count s) old code → NamesDone s old (set (set code (cell_place + 32) total) name_count_place names)
  names_done total names {code} few e f p =
      let len = p.long in
      let first = set code (cell_place + 32) total in
      let other : (i : ℕ) → i < cell_place + 32 → get_or (set first name_count_place names) i 0 ≡ get_or code i 0
      = λ i h. get_or-set_other first name_count_place i names 0 (λ r. omega arith) ∙ get_or-set_other code (cell_place + 32) i total 0 (λ r. omega arith) in
      record {
        put = record {
          long = rw (length-set, length-set) len;
          size = λ x h. other _ (omega arith) ∙ p.size x h;
          cell = λ x h. other _ (omega arith) ∙ p.cell x h;
          before = λ i h. other _ (omega arith) ∙ p.before i h;
        };
        cells = get_or-set_other first name_count_place (cell_place + 32) names 0 (λ r. omega arith) ∙ get_or-set_same code (cell_place + 32) total 0 (omega arith) ∙ e;
        count = get_or-set_same first name_count_place names 0 (rw length-set (omega arith)) ∙ f;
      }

-- the cells of leaves depend on the first cells of the names that are there
named_cell : (f g : ℕ → ℕ) (names n : ℕ) → ((x : ℕ) → x < names → f x ≡ g x) → (k : ArithNode) → There names k → leaf_cell f n k ≡ leaf_cell g n k
unfolding leaf_cell
named_cell f g names n same (Number z) there = refl
named_cell f g names n same (Variable x) there = same x there
named_cell f g names n same (Element x i) there = refl
named_cell f g names n same (Operator o p q) there = refl

-- the fourth number of an entry, where code has asked what the entry is, and was told
pub fourth_told : (code : List ℕ) (n : ℕ) {x k : ArithNode} → x ≡ arith_in code n → x ≡ k → fourth_in code n ≡ leaf_cell (cell_in code) n k
unfolding fourth_in
fourth_told code n e told = ap (leaf_cell (cell_in code) n) (sym e ∙ told)

-- the fourth numbers of the arithmetic entries: one more
module _ (old : List ℕ) where
  -- what an entry is does not depend on its fourth number, nor do the names' first cells
  kind_kept : (k : ℕ) {code : List ℕ} → CellsPut k old code → (n : ℕ) → arith_in code n ≡ arith_in old n
  unfolding arith_in arith_kind numbers_at
  kind_kept k {code} p n = rw (p.others (4 * n) (omega arith), p.others (4 * n + 1) (omega arith), p.others (4 * n + 2) (omega arith))

  cell_kept : (k : ℕ) {code : List ℕ} → k < 512 → CellsPut k old code → cell_in code ≡ cell_in old
  unfolding cell_in
  cell_kept k h p = λ i x. cond (ltb x 32) (p.after (cell_place + x) (omega arith) i) 0

  fourth_kept : (k : ℕ) {code : List ℕ} → k < 512 → CellsPut k old code → fourth_in code k ≡ fourth_in old k
  unfolding fourth_in
  fourth_kept k {code} h p = rw (kind_kept k p k, cell_kept k h p)

  pub cells_next : (k cell : ℕ) {m : ℕ} {code : List ℕ} → k < 512 → cell ≡ fourth_in code k → m ≡ k + 1 → CellsPut k old code → CellsPut m old (set code (4 * k + 3) cell)
  cells_next k cell {m} {code} h e next p =
      let len = p.long in
      record {
        long = rw length-set len;
        fourth =
            λ n l. elim (ℕ_discrete n k) [
              | yes q ↦ rw q (get_or-set_same code (4 * k + 3) cell 0 (omega arith) ∙ e ∙ fourth_kept k h p)
              | no q ↦ get_or-set_other code (4 * k + 3) (4 * n + 3) cell 0 (λ r. q (omega arith)) ∙ p.fourth n (omega arith)
            ];
        others = λ i l. get_or-set_other code (4 * k + 3) i cell 0 (λ r. omega arith) ∙ p.others i l;
        after = λ i l. get_or-set_other code (4 * k + 3) i cell 0 (λ r. omega arith) ∙ p.after i (omega arith);
      }

-- the parts one after the other, into an array of zeros
module _ (s : List ℕ) (fit : validity s ≡ Ok tt) (one two three four : List ℕ) (a : Copied s (table_start s Arithmetic) 0 (entry_count s Arithmetic) (replicate code_length 0) one)
    (b : Copied s (table_start s Boolean) boolean_place (entry_count s Boolean) one two) (n : NamesDone s two three) (v : CellsPut (entry_count s Arithmetic) three four) where
  abbrev last : List ℕ
  last = set four arithmetic_count_place (entry_count s Arithmetic)

  end : (i : ℕ) → i < arithmetic_count_place → get_or last i 0 ≡ get_or four i 0
  end i h = get_or-set_other four arithmetic_count_place i (entry_count s Arithmetic) 0 (λ r. omega arith)

  -- what stands behind the arithmetic entries, and their first three numbers
  behind : (i : ℕ) → 4 * entry_count s Arithmetic ≤ i → i < arithmetic_count_place → get_or last i 0 ≡ get_or three i 0
  behind i l h = end i h ∙ v.after i l

  front : (i : ℕ) → i % 4 < 3 → i < boolean_place → get_or last i 0 ≡ get_or one i 0
  front i l h = end i (omega arith) ∙ v.others i l ∙ n.put.before i (omega arith) ∙ b.before i h

  empty : (i : ℕ) → 4 * entry_count s Arithmetic ≤ i → i < boolean_place → get_or last i 0 ≡ 0
  empty i l h = behind i l (omega arith) ∙ n.put.before i (omega arith) ∙ b.before i h ∙ a.after i (omega arith) ∙ get_or_same code_length 0 i

  arithmetic_at : (k : ℕ) → k < entry_count s Arithmetic → numbers_at one (4 * k) ≡ entry s Arithmetic k
  unfolding entry entry_offset
  arithmetic_at k h = ap (numbers_at one) (omega arith) ∙ a.copied k h

  counted : get_or last arithmetic_count_place 0 ≡ entry_count s Arithmetic
  counted = get_or-set_same four arithmetic_count_place (entry_count s Arithmetic) 0 (omega (arith, v.long))

  -- the arithmetic entries are the file's
  same_node : (k : ℕ) → k < entry_count s Arithmetic → arith_in last k ≡ arith_kind (entry s Arithmetic k)
  unfolding arith_in arith_kind numbers_at
  same_node k h =
      let few = (counts s fit).arithmetic in
      let file = arithmetic_at k h in
      rw (front (4 * k) (omega arith) (omega arith) ∙ ap (λ (x : Entry). x.kind) file, front (4 * k + 1) (omega arith) (omega arith) ∙ ap (λ (x : Entry). x.p) file, front (4 * k + 2) (omega arith) (omega arith) ∙ ap (λ (x : Entry). x.q) file)

  first_put : (x : ℕ) → x < name_count s → cell_in three x ≡ first_cell (sizes s) x
  unfolding cell_in
  first_put x there = rw (lt-ltb x 32 (omega (arith, (counts s fit).names))) (n.put.cell x there)

  leaf_cell_lem : (k : ℕ) → k < entry_count s Arithmetic → get_or last (4 * k + 3) 0 ≡ leaf_cell (first_cell (sizes s)) k (arith_in last k)
  unfolding fourth_in arith_in arith_kind numbers_at
  leaf_cell_lem k h =
      let few = (counts s fit).arithmetic in
      let same : arith_in three k ≡ arith_in last k = rw (end (4 * k) (omega arith) ∙ v.others (4 * k) (omega arith), end (4 * k + 1) (omega arith) ∙ v.others (4 * k + 1) (omega arith), end (4 * k + 2) (omega arith) ∙ v.others (4 * k + 2) (omega arith)) in
      end (4 * k + 3) (omega arith) ∙ v.fourth k h ∙ ap (leaf_cell (cell_in three) k) same
      ∙ named_cell (cell_in three) (first_cell (sizes s)) (name_count s) k first_put (arith_in last k) (rw (same_node k h) (node_there s fit k h))

  past : (k : ℕ) → entry_count s Arithmetic ≤ k → k < 512 → numbers_at last (4 * k) ≡ no_entry
  unfolding numbers_at
  past k l h = rw (empty (4 * k) (omega arith) (omega arith), empty (4 * k + 1) (omega arith) (omega arith), empty (4 * k + 2) (omega arith) (omega arith), empty (4 * k + 3) (omega arith) (omega arith))

  is_coded : Coded (sizes s) last
  unfolding size_in cell_in numbers_at
  is_coded =
      let all = sizes_length s in
      let known = counts s fit in
      let names = known.names in
      let few = known.arithmetic in
      record {
        long = length-set four arithmetic_count_place (entry_count s Arithmetic) ∙ v.long;
        some = omega (arith, known.some_name);
        few = omega arith;
        most = few_cells s fit;
        count = behind name_count_place (omega arith) (omega arith) ∙ n.count ∙ sym all;
        size = λ x h. rw (lt-ltb x 32 (omega arith)) (behind (size_place + x) (omega arith) (omega arith) ∙ n.put.size x (omega arith));
        cell = λ x h. rw (lt-ltb x 32 (omega arith)) (behind (cell_place + x) (omega arith) (omega arith) ∙ n.put.cell x (omega arith));
        cells = behind (cell_place + 32) (omega arith) (omega arith) ∙ n.cells;
        ordered = record { few = omega (arith, counted); lower = λ k h. rw (same_node k (omega (arith, counted))) (node_lower s fit k (omega (arith, counted))) };
        leaf = λ k h. leaf_cell_lem k (omega (arith, counted));
        past = λ k l h. past k (omega (arith, counted)) h;
      }

  pub code_made : CodeIn s last
  unfolding numbers_at entry entry_offset
  code_made =
      let few = (counts s fit).arithmetic in
      let small = (counts s fit).boolean in
      let same : (i : ℕ) → boolean_place ≤ i → i < size_place → get_or last i 0 ≡ get_or two i 0 = λ i l h. behind i (omega arith) (omega arith) ∙ n.put.before i h in
      record {
        coded = is_coded;
        kind = λ k h. front (4 * k) (omega arith) (omega arith) ∙ ap (λ (x : Entry). x.kind) (arithmetic_at k h);
        p = λ k h. front (4 * k + 1) (omega arith) (omega arith) ∙ ap (λ (x : Entry). x.p) (arithmetic_at k h);
        q = λ k h. front (4 * k + 2) (omega arith) (omega arith) ∙ ap (λ (x : Entry). x.q) (arithmetic_at k h);
        booleans =
            λ k h. numbers_same last two (boolean_place + 4 * k) (boolean_place + 4 * k) (same _ (omega arith) (omega arith)) (same _ (omega arith) (omega arith)) (same _ (omega arith) (omega arith)) (same _ (omega arith) (omega arith))
            ∙ b.copied k h;
      }

-- the same by the file's layout
pub code_laid : (s : List ℕ) → validity s ≡ Ok tt → (l : Layout) → l ≡ layout_of s → (one two three four : List ℕ)
    → Copied s l.arithmetic.start 0 l.arithmetic.count (replicate code_length 0) one → Copied s l.boolean.start boolean_place l.boolean.count one two
    → NamesDone s two three → CellsPut l.arithmetic.count three four → CodeIn s (set four arithmetic_count_place l.arithmetic.count)
unfolding table_start entry_count span_of
code_laid s fit l e one two three four = rw e (code_made s fit one two three four)
